-- "Undamaged" as the model tests it, and as its lines: the law each way.
use mathlib.Core.Path.{◌≡◌, refl, ap, ◌∙◌}
use mathlib.Core.Logic.{inl, inr}
use mathlib.Core.Bool.{true, not}
use mathlib.Core.List.{List}
use Prim.Native.Nat.{ℕ, suc, ◌+◌, ◌*◌, ◌≤◌, ◌<◌}
use native.Mathlib.Decide.{ℕ_discrete, dec_lt}
use native.Mathlib.Omega.{arith}
use lib.Dec.{eqb}
use lib.ListN.{length}
use borrow.Author.Tests.{ltb-true, leb-true, eqb-true, eqb-false, not-true, lt-ltb, le-leb, eq-eqb, ne_eqb}
use Rattle.model.specs.Base.{nth, all}
use Rattle.model.specs.Image.{Image, granules, word, is_start, marked, card_count, marks_on, links, link, state, count, owed, scanned, running, first_run}
use Rattle.model.specs.Undamaged.{zero_granule, filled, nil_or_start, links_ok, reg_ok, player_ok, card_ok, mark_ok, count_ok, general_ok, idle_ok, sound, undamaged}
use Rattle.model.proofs.Laws.{nth_out, imp_use, imp_make, either_no, either_make, all_use, all_make, every_use, every_nil, every_cons, zeroes_use, zeroes_make}
use Rattle.theory.specs.Cover.{Counted}
use Rattle.theory.specs.Lines.{PlayersOk, NilOr, GeneralOk, HeapOk, Start, Marked, Lines, Idle, Sound, Undamaged, Sizes}
use Rattle.theory.proofs.lines.Cover.{cover_use, cover_make}
use Rattle.theory.proofs.lines.Tests.{packets_use, packets_make, tracers_use, tracers_make}

-- ---- words of a list

-- what holds of 0 holds of word i of a list, if it does where there is such a word
each_word : (P : ℕ → Type 0) (l : List ℕ) (i : ℕ) → P 0 → (i < length l → P (nth l i)) → P (nth l i)
each_word P l i z f = elim (dec_lt i (length l)) [ yes h ↦ f h | no h ↦ rw (nth_out l i (omega arith)) z ]

-- ---- line by line

module _ (m : Image) where
  nil_use : (a : ℕ) → nil_or_start m a ≡ true → NilOr (Start m) a
  unfolding nil_or_start granules is_start
  nil_use a e = elim (ℕ_discrete a 0) [ yes z ↦ inl z | no n ↦ let r = either_no _ _ _ (ne_eqb a 0 n) e in inr (ltb-true _ _ (every_use _ r 0), every_use _ r 1) ]

  nil_make : (a : ℕ) → NilOr (Start m) a → nil_or_start m a ≡ true
  unfolding nil_or_start granules is_start
  nil_make a (inl z) = either_make (eqb a 0) true _ (λ _. refl) (λ n. absurd (eqb-false _ _ n z))
  nil_make a (inr (l, s)) = either_make (eqb a 0) true _ (λ _. refl) (λ _. every_cons _ _ (lt-ltb _ _ l) (every_cons _ _ s every_nil))

  heap_use : Sizes m → zero_granule m ≡ true → filled m ≡ true → all (granules m) (links_ok m) ≡ true → HeapOk m.width m.k m.heap m.starts (nth m.general 1)
  unfolding zero_granule filled links_ok granules is_start links link word first_run
  heap_use z a b c =
      record {
        sized = z.heap_size;
        starts_sized = z.starts_size;
        blank = λ i h. eqb-true _ _ (all_use 4 _ (every_use _ a 0) i h);
        unused = not-true _ (every_use _ a 1);
        within = z.starts_in;
        filled = b;
        links-ok = λ g i h s l. nil_use _ (all_use _ _ (imp_use _ _ (all_use _ _ c g h) s) i l);
      }

  heap_make : HeapOk m.width m.k m.heap m.starts (nth m.general 1) → (zero_granule m ≡ true) × (filled m ≡ true) × (all (granules m) (links_ok m) ≡ true)
  unfolding zero_granule filled links_ok granules is_start links link word first_run
  heap_make o = (
    every_cons _ _ (all_make 4 _ (λ i h. eq-eqb _ _ (o.blank i h))) (every_cons _ _ (ap not o.unused) every_nil),
    o.filled,
    all_make _ _ (λ g h. imp_make _ _ (λ s. all_make _ _ (λ i l. nil_make _ (o.links-ok g i h s l)))),
  )

  players_use : length m.players ≡ 32 → all 16 (player_ok m) ≡ true → PlayersOk m.k m.players
  unfolding player_ok owed scanned
  players_use l a = record {
    sized = l;
    owed_ok = λ p. each_word (λ x. x ≤ m.k) m.players (2 * p) (omega arith) (λ h. leb-true _ _ (every_use _ (all_use 16 _ a p (omega arith)) 0));
    scanned_ok = λ p. each_word (λ x. x ≤ 1) m.players (2 * p + 1) (omega arith) (λ h. leb-true _ _ (every_use _ (all_use 16 _ a p (omega arith)) 1));
  }

  general_use : length m.general ≡ 8 → general_ok m ≡ true → GeneralOk m.general
  unfolding general_ok running
  general_use l e = record {
    sized = l;
    runs = leb-true _ _ (every_use _ e 0);
    rest = λ i.
        let s : suc (suc i) ≡ 2 + i = omega arith in
        rw s (each_word (λ x. x ≡ 0) m.general (2 + i) refl (λ h. eqb-true _ _ (all_use 6 _ (every_use _ e 1) i (omega arith))));
  }

  general_make : GeneralOk m.general → general_ok m ≡ true
  unfolding general_ok running
  general_make o = every_cons _ _ (le-leb _ _ o.runs) (every_cons _ _ (all_make 6 _ (λ i h. let s : 2 + i ≡ suc (suc i) = omega arith in eq-eqb _ _ (ap (nth m.general) s ∙ o.rest i))) every_nil)

  idle_use : length m.players ≡ 32 → idle_ok m ≡ true → nth m.general 0 ≡ 0 → Idle m.marks m.packets m.tracers m.players
  unfolding idle_ok running scanned
  idle_use l e r =
      let i = imp_use _ _ e (eq-eqb (nth m.general 0) 0 r) in
      record {
        no_marks = zeroes_use _ (every_use _ i 0);
        no_packets = zeroes_use _ (every_use _ i 1);
        no_tracers = zeroes_use _ (every_use _ i 2);
        no_scanned = λ p. each_word (λ x. x ≡ 0) m.players (2 * p + 1) refl (λ h. eqb-true _ _ (all_use 16 _ (every_use _ i 3) p (omega arith)));
      }

  idle_make : (nth m.general 0 ≡ 0 → Idle m.marks m.packets m.tracers m.players) → idle_ok m ≡ true
  unfolding idle_ok running scanned
  idle_make d =
      imp_make _ _
      (λ r. let i = d (eqb-true _ _ r) in
      every_cons _ _ (zeroes_make _ i.no_marks) (every_cons _ _ (zeroes_make _ i.no_packets) (every_cons _ _ (zeroes_make _ i.no_tracers) (every_cons _ _ (all_make 16 _ (λ p h. eq-eqb _ _ (i.no_scanned p))) every_nil))))

  -- ---- all lines

  pub sound_use : Sizes m → sound m ≡ true → Sound m
  unfolding sound reg_ok card_ok state granules mark_ok marked is_start count_ok card_count marks_on
  sound_use z e =
      let start : (g : ℕ) → Marked m g → Start m g = λ g k. (z.marks_in g k, imp_use _ _ (all_use _ _ (every_use _ e 7) g (z.marks_in g k)) k) in
      record {
        lines = record {
          heap_ok = heap_use z (every_use _ e 0) (every_use _ e 1) (every_use _ e 2);
          regs_ok = record { sized = z.regs_size; values = λ i. each_word (NilOr (Start m)) m.regs i (inl refl) (λ h. nil_use _ (all_use _ _ (every_use _ e 3) i (omega arith))) };
          cards_ok = record { sized = z.cards_size; states = λ c. each_word (λ x. x ≤ 3) m.cards c (omega arith) (λ h. leb-true _ _ (all_use _ _ (every_use _ e 4) c (omega arith))) };
          players_ok = players_use z.players_size (every_use _ e 5);
          general-ok = general_use z.general_size (every_use _ e 6);
          marks_ok = record { exact = z.marks_size; sized = z.marks_room; on_starts = start; counts_sized = z.counts_size; counted = λ c h. eqb-true _ _ (all_use _ _ (every_use _ e 13) c h) };
          packets_ok = packets_use m z.packets_size (every_use _ e 8) (every_use _ e 9);
          tracers_ok = tracers_use m z.tracers_size (every_use _ e 10) (every_use _ e 11);
        };
        idle = idle_use z.players_size (every_use _ e 12);
      }

  pub sound_make : Sound m → sound m ≡ true
  unfolding sound reg_ok card_ok state player_ok owed scanned granules mark_ok marked is_start count_ok card_count marks_on
  sound_make s =
      let o = s.lines in
      let h = heap_make o.heap_ok in
      let ps = packets_make m (λ g k. (o.marks_ok.on_starts g k).0) o.packets_ok in
      let ts = tracers_make m (λ g k. (o.marks_ok.on_starts g k).0) o.tracers_ok in
      every_cons _ _ h.0
      (every_cons _ _ h.1
      (every_cons _ _ h.2
      (every_cons _ _ (all_make 256 _ (λ i l. nil_make _ (o.regs_ok.values i)))
      (every_cons _ _ (all_make _ _ (λ c l. le-leb _ _ (o.cards_ok.states c)))
      (every_cons _ _ (all_make 16 _ (λ p l. every_cons _ _ (le-leb _ _ (o.players_ok.owed_ok p)) (every_cons _ _ (le-leb _ _ (o.players_ok.scanned_ok p)) every_nil)))
      (every_cons _ _ (general_make o.general-ok)
      (every_cons _ _ (all_make _ _ (λ g l. imp_make _ _ (λ k. (o.marks_ok.on_starts g k).1)))
      (every_cons _ _ ps.0
      (every_cons _ _ ps.1
      (every_cons _ _ ts.0
      (every_cons _ _ ts.1
      (every_cons _ _ (idle_make s.idle)
      (every_cons _ _ (all_make _ _ (λ c l. eq-eqb _ _ (o.marks_ok.counted c l))) every_nil)))))))))))))

  pub counted_of : Lines m → Counted m
  unfolding count
  counted_of o = record { packets_length = o.packets_ok.sized; counts = o.packets_ok.few }

  pub undamaged_use : Sizes m → undamaged m ≡ true → Undamaged m
  unfolding undamaged
  undamaged_use z e = record { sound = sound_use z (every_use _ e 0); cover = cover_use m (every_use _ e 1) }

  pub undamaged_make : Undamaged m → undamaged m ≡ true
  unfolding undamaged
  undamaged_make u = every_cons _ _ (sound_make u.sound) (every_cons _ _ (cover_make m (counted_of u.sound.lines) u.cover) every_nil)
