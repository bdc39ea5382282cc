-- The lines together: with no cycle those on marks, counts, packets and tracers follow from their words being 0; the ways out of a cycle's lines and of all lines.
use Prim.Native.Nat.{ℕ, ◌+◌, ◌*◌, suc, ◌/◌, zero, ◌%◌}
use Rattle.model.proofs.Laws.{all_make, every_use, every_cons, every_nil, zeroes_use, and_split, and_join, same_test}
use Rattle.model.specs.Base.{nth, all, distinct, bit, every, implies, either, zeroes}
use Rattle.model.specs.Image.{entries, entries_of, count, entry, image, image_of, granules, marked, hand, next_link, hand_card, next_granule, running, owed, scanned, card_count, marks_on}
use Rattle.model.specs.Undamaged.{zero_granule, filled, links_ok, reg_ok, card_ok, player_ok, general_ok, mark_ok, entry_ok, hand_ok, hand_card_ok, tracer_ok, held_at, held_once, idle_ok, sound, count_ok}
use borrow.Author.Tests.{eq-eqb, ne_eqb, le-ltb, not-true, not-false}
use lib.Dec.{leb}
use lib.ListN.{take, drop}
use mathlib.Core.Bool.{Bool, true, false, not, ◌&&◌, and-true, and_assoc, and_comm, and-false}
use mathlib.Core.List.{List, []}
use mathlib.Core.Path.{◌≡◌, refl, sym, ap, ◌∙◌}
use native.Mathlib.Omega.{arith}
use Rattle.soundness_laws.specs.Tests.{packet_ok_at, entry_ok_at, layout, cycle_lines, not_scanned, still, idle, Packed}
use Rattle.soundness_laws.proofs.Packets.{entries_more, packet_is, all_packets, packed}
use Rattle.image_laws.specs.Sized.{Sized}
use Rattle.image_laws.proofs.Bits.{zero_bit}
use Rattle.image_laws.proofs.Parts.{zero_stretch, all_cong, zeroes_all}
use Rattle.image_laws.proofs.Lengths.{cards_image, general_words, counts_words}
use Rattle.model.proofs.Counts.{how_many_none}
use Rattle.image_laws.specs.Parts.{is_zero}

no_entries : (n : ℕ) (ps : List ℕ) → ((i : ℕ) → nth ps i ≡ 0) → entries_of n ps ≡ []
unfolding entries_of
no_entries zero ps z = refl
no_entries (suc n) ps z = entries_more n ps ∙ rw (no_entries n ps z, z (32 * n))

-- ---- the lines of a section that is 0

module _ (w k : ℕ) (l : List ℕ) where
  pub player_lines : (p o s : ℕ) → o ≡ owed (image_of w k l) p → s ≡ scanned (image_of w k l) p → (leb o k && leb s 1) ≡ player_ok (image_of w k l) p
  unfolding player_ok every image_of image
  player_lines p o s eo es = rw (eo, es) (simp and-true)

  pub general_lines : (v : ℕ) (r : Bool) → Sized w k l → v ≡ running (image_of w k l) → r ≡ zeroes (take 6 (drop 2 (image_of w k l).general)) → (leb v 1 && r) ≡ general_ok (image_of w k l)
  unfolding general_ok every
  general_lines v r z ev er = rw (ev, er, zero_stretch (image_of w k l).general 2 6 (omega (arith, general_words z))) (simp and-true)

  pub no_mark : zeroes (image_of w k l).marks ≡ true → (g : ℕ) → marked (image_of w k l) g ≡ false
  unfolding marked bit
  no_mark e g = zero_bit _ _ (zeroes_use (image_of w k l).marks e _)

  packet_idle : ((i : ℕ) → nth (image_of w k l).packets i ≡ 0) → Sized w k l → (p : ℕ) → packet_ok_at (image_of w k l) p ≡ true
  unfolding every count entry_ok_at entry_ok entry
  packet_idle z s p =
      let entries = all_make 30 (entry_ok_at (image_of w k l) p) (λ e h. rw (z (32 * p), z (32 * p + 2 + e), le-ltb e 0 (omega arith))) in
      rw (packet_is w k l s p, z (32 * p + 1), entries, z (32 * p))

  tracer_idle : ((i : ℕ) → nth (image_of w k l).tracers i ≡ 0) → (t : ℕ) → tracer_ok (image_of w k l) t ≡ true
  unfolding tracer_ok every hand_ok hand_card_ok either hand next_link hand_card next_granule
  tracer_idle z t = simp z

  module _ (s : Sized w k l) where
    -- with no mark, counts that are 0 are right
    idle_counts : zeroes (image_of w k l).marks ≡ true → zeroes (image_of w k l).counts ≡ all (image_of w k l).k (count_ok (image_of w k l))
    unfolding is_zero count_ok card_count marks_on
    idle_counts e =
        rw (counts_words s ∙ sym (cards_image w k l)) at (sym (zeroes_all (image_of w k l).counts))
        ∙ all_cong (image_of w k l).k _ _ (λ c h. rw (how_many_none _ 64 (λ j q. no_mark e (64 * c + j))))

    pub idle_cycle : idle (image_of w k l) ≡ true → cycle_lines (image_of w k l) ≡ true
    unfolding idle still cycle_lines mark_ok implies entries distinct held_once held_at either
    idle_cycle e =
        let z = every_use _ (every_use _ e 0) in
        let p : (i : ℕ) → nth (image_of w k l).packets i ≡ 0 = zeroes_use (image_of w k l).packets (z 1) in
        let t : (i : ℕ) → nth (image_of w k l).tracers i ≡ 0 = zeroes_use (image_of w k l).tracers (z 2) in
        every_cons _ _ (all_make (granules (image_of w k l)) _ (λ g h. rw (no_mark (z 0) g)))
        (every_cons _ _ (all_packets w k l s ∙ all_make 32 (packet_ok_at (image_of w k l)) (λ i h. packet_idle p s i))
        (every_cons _ _ (rw (no_entries 32 (image_of w k l).packets p))
        (every_cons _ _ (all_make 8 _ (λ i h. tracer_idle t i))
        (every_cons _ _ (all_make 16 _ (λ x h. rw (t (8 * (x / 2) + x % 2))))
        (every_cons _ _ (sym (idle_counts (z 0)) ∙ every_use _ e 1) every_nil)))))

    -- and counts that are right are 0
    still_is : idle (image_of w k l) ≡ (cycle_lines (image_of w k l) && still (image_of w k l))
    unfolding idle still cycle_lines
    still_is =
        same_test _ _
        (λ e. and_join _ _ (idle_cycle e) (every_use _ e 0))
        (λ e. let c = and_split _ _ e in every_cons _ _ c.1 (every_cons _ _ (idle_counts (every_use _ c.1 0) ∙ every_use _ c.0 5) every_nil))

    -- ---- the ways out of `cycle_ok`

    module _ (t : Bool) (e : t ≡ all 32 (packet_ok_at (image_of w k l))) where
      pub cycle_no : not t ≡ true → false ≡ cycle_lines (image_of w k l)
      unfolding cycle_lines every
      cycle_no h = rw (all_packets w k l s, ← e, not-true t h) (simp and-false)

      pub cycle_yes : (a b c d f : Bool) → not t ≡ false → a ≡ all (granules (image_of w k l)) (mark_ok (image_of w k l)) → b ≡ distinct (entries (image_of w k l)) → c ≡ all 8 (tracer_ok (image_of w k l)) → d ≡ all 16 (held_once (image_of w k l)) → f ≡ all k (count_ok (image_of w k l))
          → ((((a && b) && c) && d) && f) ≡ cycle_lines (image_of w k l)
      unfolding cycle_lines every
      cycle_yes a b c d f h ea eb ec ed ef =
          let eg : f ≡ all (image_of w k l).k (count_ok (image_of w k l)) = ef ∙ ap (λ j. all j (count_ok (image_of w k l))) (sym (cards_image w k l)) in
          rw (all_packets w k l s, ← e, not-false t h, ← ea, ← eb, ← ec, ← ed, ← eg) (simp (and_assoc, and-true))

      pub cycle_packed : not t ≡ false → Packed (image_of w k l)
      cycle_packed h = packed w k l s (sym e ∙ not-false t h)

    -- ---- the ways out of `is_sound`

    pub layout_is : (a b c d e : Bool) → a ≡ (zero_granule (image_of w k l) && (filled (image_of w k l) && all (granules (image_of w k l)) (links_ok (image_of w k l)))) → b ≡ all 256 (reg_ok (image_of w k l)) → c ≡ all k (card_ok (image_of w k l)) → d ≡ all 16 (player_ok (image_of w k l)) → e ≡ general_ok (image_of w k l)
        → ((((a && b) && c) && d) && e) ≡ layout (image_of w k l)
    unfolding layout every image_of image
    layout_is a b c d e ea eb ec ed ee = rw (ea, eb, ec, ed, ee) (simp (and_assoc, and-true))

    module _ (a : Bool) (ea : a ≡ layout (image_of w k l)) where
      sound_is : sound (image_of w k l) ≡ (a && (cycle_lines (image_of w k l) && idle_ok (image_of w k l)))
      unfolding sound every cycle_lines layout
      sound_is = rw (ea, and_comm (idle_ok (image_of w k l)) _) (simp (and_assoc, and-true))

      module _ (v : ℕ) (ev : v ≡ running (image_of w k l)) where
        pub sound_still : (i : Bool) → v ≡ 0 → i ≡ idle (image_of w k l) → (a && i) ≡ sound (image_of w k l)
        unfolding idle_ok implies still not_scanned
        sound_still i h q = rw (sound_is, ← ev, eq-eqb v 0 h, q, still_is)

        pub sound_cycle : (y : Bool) → (v ≡ 0 → ⊥) → y ≡ cycle_lines (image_of w k l) → (a && y) ≡ sound (image_of w k l)
        unfolding idle_ok implies
        sound_cycle y h q = rw (sound_is, ← ev, ne_eqb v 0 h, ← q) (simp and-true)
