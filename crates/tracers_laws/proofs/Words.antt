-- A tracer read from the image and written back: what its next states by value do to the image.
use mathlib.Core.Path.{◌≡◌, refl, sym, ap, ◌∙◌}
use mathlib.Core.Bool.{cond}
use mathlib.Core.List.{List, [], ◌∷◌}
use Prim.Native.Nat.{ℕ, zero, suc, ◌+◌, ◌*◌, ◌≤◌, ◌<◌}
use native.Mathlib.Omega.{arith}
use native.Mathlib.Nat.{add-zero, add-suc, suc-add}
use native.Mathlib.Numerals.{add-one}
use mathlib.Core.Logic.{inl, inr}
use Rattle.model.proofs.Laws.{bool_cases}
use lib.Dec.{ltb}
use lib.ListN.{length, get_or}
use lib.Seq.{drop-cons}
use borrow.Rule.Slice.PartMut.{mid_of, put_mid}
use Rattle.model.specs.Base.{nth, put, table}
use Rattle.model.specs.Image.{Image, sections, image_of, image, tracers_at, input, output, hand, next_link, hand_card, next_granule, set_tracer, with_tracers}
use Rattle.image_laws.specs.Sized.{Sized}
use Rattle.image_laws.proofs.Sections.{image_fits}
use Rattle.model.specs.Collect.{put_hand, put_card}
use Rattle.tracers_laws.specs.Tracer.{Tracer, tracer_at, link_done, object_in_hand, card_taken, granule_moves_on, card_let_go, packet_becomes_input, output_becomes_input, output_goes_back, output_taken, with_tracer}
use Rattle.tracers_laws.proofs.Writes.{Write, write, Below, in_stretch, in_list, writes}

pub tracers_long : {w k : ℕ} {ws : List ℕ} → Sized w k ws → length (image_of w k ws).tracers ≡ 64
unfolding sections image_of image
tracers_long z = ap (λ (l : List ℕ). get_or l tracers_at 0) (image_fits z).section_lengths

-- the six words from o on
abbrev six : List ℕ → ℕ → List ℕ
six l o = nth l o ∷ nth l (o + 1) ∷ nth l (o + 2) ∷ nth l (o + 3) ∷ nth l (o + 4) ∷ nth l (o + 5) ∷ []

-- n words from o on, one by one
mid_table : (n : ℕ) (l : List ℕ) (o : ℕ) → o + n ≤ length l → mid_of o n l ≡ table n (λ i. nth l (o + i))
unfolding nth table
mid_table zero l o h = refl
mid_table (suc n) l o h =
    rw (drop-cons l o 0 (omega arith)) (simp (add-zero, add-suc) (ap (λ r. get_or l o 0 ∷ r) (simp suc-add at (mid_table n l (suc o) (omega arith)))))

-- the six words of a state written, then r
abbrev words_then : Tracer → List Write → List Write
words_then x r = write 0 x.input ∷ write 1 x.output ∷ write 2 x.hand ∷ write 3 x.link ∷ write 4 x.card ∷ write 5 x.granule ∷ r

words_below : (x : Tracer) (r : List Write) → Below 6 r → Below 6 (words_then x r)
words_below x r b = (omega arith, (omega arith, (omega arith, (omega arith, (omega arith, (omega arith, b))))))

-- Writes that leave the same six words leave the same list.
same_writes : (l : List ℕ) (o : ℕ) (r s : List Write) → o + 6 ≤ length l → Below 6 r → Below 6 s → in_stretch (six l o) r ≡ in_stretch (six l o) s → in_list o l r ≡ in_list o l s
unfolding table
same_writes l o r s h b c q =
    let mid : mid_of o 6 l ≡ six l o = rw (add-zero o) at (mid_table 6 l o h) in
    sym (rw mid at (writes o 6 l r b)) ∙ (ap (put_mid o 6 l) q ∙ rw mid at (writes o 6 l s c))

-- ---- read and written

pub tracer_read : (m : Image) (t a b c d e f : ℕ) → a ≡ nth m.tracers (8 * t) → b ≡ nth m.tracers (8 * t + 1) → c ≡ nth m.tracers (8 * t + 2) → d ≡ nth m.tracers (8 * t + 3) → e ≡ nth m.tracers (8 * t + 4) → f ≡ nth m.tracers (8 * t + 5)
    → ◌≡◌ {A = Tracer} (record { input = a; output = b; hand = c; link = d; card = e; granule = f }) (tracer_at m t)
unfolding tracer_at input output hand next_link hand_card next_granule
tracer_read m t a b c d e f p q r s u v = λ i. record { input = p i; output = q i; hand = r i; link = s i; card = u i; granule = v i }

pub tracer_written : (m n₀ n₁ n₂ n₃ n₄ n₅ : Image) (t : ℕ) (x : Tracer) → n₀ ≡ set_tracer m t 0 x.input → n₁ ≡ set_tracer n₀ t 1 x.output → n₂ ≡ set_tracer n₁ t 2 x.hand → n₃ ≡ set_tracer n₂ t 3 x.link → n₄ ≡ set_tracer n₃ t 4 x.card → n₅ ≡ set_tracer n₄ t 5 x.granule
    → n₅ ≡ with_tracer m t x
unfolding with_tracer
tracer_written m n₀ n₁ n₂ n₃ n₄ n₅ t x a b c d e f = rw (f, e, d, c, b, a)

-- ---- the image with the next state written is the model's

unfoldable tracer_open : ℕ
unfolding tracer_at with_tracer set_tracer with_tracers put input output hand next_link hand_card next_granule
tracer_open = 0

module _ (m : Image) (t : ℕ) (h : t < 8) (l : length m.tracers ≡ 64) where
  -- a state written is these writes, if they leave the same six words
  by_writes : (x : Tracer) (r : List Write) → Below 6 r → in_stretch (six m.tracers (8 * t)) (words_then x []) ≡ in_stretch (six m.tracers (8 * t)) r → with_tracer m t x ≡ with_tracers m (in_list (8 * t) m.tracers r)
  unfolding tracer_open
  by_writes x r b q = ap (with_tracers m) (same_writes m.tracers (8 * t) (words_then x []) r (omega arith) (words_below x [] tt) b q)

  -- of two states written the last stays
  pub written_again : (x y : Tracer) → with_tracer (with_tracer m t x) t y ≡ with_tracer m t y
  unfolding tracer_open
  written_again x y =
      let b = words_below y [] tt in
      sym (by_writes y (words_then x (words_then y [])) (words_below x (words_then y []) b) refl)

  pub link_done_written : (n : ℕ) → with_tracer m t (link_done (tracer_at m t) n) ≡ cond (ltb (suc (next_link m t)) n) (put_hand m t (hand m t) (suc (next_link m t))) (put_hand m t 0 0)
  unfolding link_done put_hand tracer_open
  link_done_written n =
      rw (← add-one (next_link m t)) (elim (bool_cases (ltb (next_link m t + 1) n)) [
        | inl e ↦ rw e (by_writes _ (write 2 (hand m t) ∷ write 3 (next_link m t + 1) ∷ []) (omega arith, (omega arith, tt)) refl)
        | inr e ↦ rw e (by_writes _ (write 2 0 ∷ write 3 0 ∷ []) (omega arith, (omega arith, tt)) refl)
      ])

  pub object_written : (g : ℕ) → with_tracer m t (object_in_hand (tracer_at m t) g) ≡ put_hand m t g 0
  unfolding object_in_hand put_hand tracer_open
  object_written g = by_writes _ (write 2 g ∷ write 3 0 ∷ []) (omega arith, (omega arith, tt)) refl

  pub card_taken_written : (c : ℕ) → with_tracer m t (card_taken (tracer_at m t) c) ≡ put_card m t (suc c) (64 * c)
  unfolding card_taken put_card tracer_open
  card_taken_written c = rw (← add-one c) (by_writes _ (write 4 (c + 1) ∷ write 5 (64 * c) ∷ []) (omega arith, (omega arith, tt)) refl)

  pub granule_written : (g : ℕ) → with_tracer m t (granule_moves_on (tracer_at m t) g) ≡ put_card m t (hand_card m t) (suc g)
  unfolding granule_moves_on put_card tracer_open
  granule_written g = rw (← add-one g) (by_writes _ (write 4 (hand_card m t) ∷ write 5 (g + 1) ∷ []) (omega arith, (omega arith, tt)) refl)

  pub let_go_written : with_tracer m t (card_let_go (tracer_at m t)) ≡ put_card m t 0 0
  unfolding card_let_go put_card tracer_open
  let_go_written = by_writes _ (write 4 0 ∷ write 5 0 ∷ []) (omega arith, (omega arith, tt)) refl

  pub input_written : (p : ℕ) → with_tracer m t (packet_becomes_input (tracer_at m t) p) ≡ set_tracer m t 0 p
  unfolding packet_becomes_input tracer_open
  input_written p = by_writes _ (write 0 p ∷ []) (omega arith, tt) refl

  pub output_input_written : with_tracer m t (output_becomes_input (tracer_at m t)) ≡ set_tracer (set_tracer m t 0 (output m t)) t 1 0
  unfolding output_becomes_input tracer_open
  output_input_written = by_writes _ (write 0 (output m t) ∷ write 1 0 ∷ []) (omega arith, (omega arith, tt)) refl

  pub output_back_written : with_tracer m t (output_goes_back (tracer_at m t)) ≡ set_tracer m t 1 0
  unfolding output_goes_back tracer_open
  output_back_written = by_writes _ (write 1 0 ∷ []) (omega arith, tt) refl

  pub output_taken_written : (p : ℕ) → with_tracer m t (output_taken (tracer_at m t) p) ≡ set_tracer m t 1 p
  unfolding output_taken tracer_open
  output_taken_written p = by_writes _ (write 1 p ∷ []) (omega arith, tt) refl
