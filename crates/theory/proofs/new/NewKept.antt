-- A new keeps "undamaged".
use mathlib.Core.Path.{◌≡◌, refl, sym, ap, subst, ◌∙◌}
use mathlib.Core.Logic.{inl, inr}
use mathlib.Core.Bool.{true}
use Prim.Native.Nat.{ℕ, suc, ◌+◌, ◌*◌, ◌-◌, ◌≤◌, ◌<◌, zero-le}
use native.Mathlib.Decide.{ℕ_discrete}
use native.Mathlib.Omega.{arith}
use borrow.Author.Tests.{eqb-false, eqb-true, not-false}
use Rattle.model.specs.Base.{nth, bit}
use Rattle.model.specs.Image.{Image, granules, word, is_start, links, link, owed, first_run, with_regs, set_reg}
use Rattle.model.specs.Undamaged.{filled}
use Rattle.model.specs.Records.{Step, new}
use Rattle.model.specs.Mutate.{Placing, room_for, new_object}
use Rattle.model.specs.Steps.{no_room, refusal, off_desk, owes, owing, accept, act}
use Rattle.model.proofs.Laws.{some_false}
use Rattle.theory.specs.Heap.{HeapFilled}
use Rattle.theory.specs.Lines.{NilOr, GeneralOk, HeapOk, Start, Lines, Undamaged}
use Rattle.theory.specs.New.{reheaped, NewMade}
use Rattle.theory.proofs.heap.Facts.{some_card, laid_of, link_value, start_at, heap_filled_of, heap_sized_of}
use Rattle.theory.proofs.steps.Steps.{line, not_above, good_size}
use Rattle.theory.proofs.steps.Mutating.{reg_keeps, is-start}
use Rattle.theory.proofs.new.Room.{room_test}
use Rattle.theory.proofs.new.NewMade.{new_made}
use Rattle.theory.proofs.finish.Replaced.{reheaped_keeps}
use Rattle.theory.proofs.heap.Walk.{filled_make, no_start_zero}

module _ {m n : Image} {p r b c g : ℕ} (u : Undamaged m) (k : NewMade m n p r b c g) (fit : c ≤ 4 * b - 2) where
  o : Lines m
  o = u.sound.lines

  -- n is m with heap, start bits and general section written, and then a register
  abbrev made : Image
  made = set_reg (reheaped m n.heap n.starts n.general) p r g

  made_filled : HeapFilled made
  made_filled = subst HeapFilled k.sections k.filled

  new_start : (h : ℕ) → is_start n h ≡ bit m.width n.starts h
  new_start h = ap (λ x. is_start x h) k.sections ∙ (unfold is_start set_reg with_regs in refl)

  still_start : (h : ℕ) → bit m.width m.starts h ≡ true → bit m.width n.starts h ≡ true
  unfolding is_start
  still_start h s = sym (new_start h) ∙ elim (ℕ_discrete h g) [ yes e ↦ ap (is_start n) e ∙ k.start_new | no ne ↦ k.start_old h ne ∙ s ]

  word_stays : (h i : ℕ) → Start m h → i ≤ links m h → word n h (1 + i) ≡ word m h (1 + i)
  word_stays h i s l = let a = is-start m h s in k.words_old h (1 + i) a (omega (arith, (laid_of o).inside h a))

  link-ok : (h i : ℕ) → h < 64 * m.k → bit m.width n.starts h ≡ true → i < links n h → NilOr (λ a. (a < 64 * m.k) × (bit m.width n.starts a ≡ true)) (link n h i)
  unfolding links link
  link-ok h i hh s l = elim (ℕ_discrete h g) [
    | yes e ↦ inl (ap (λ x. word n x (2 + i)) e ∙ k.zero_new i (omega (arith, k.links_new, rw e at l)))
    | no ne ↦
        let a : Start m h = start_at o h (sym (k.start_old h ne) ∙ (new_start h ∙ s)) in
        let d : i < word m h 1 = rw (word_stays h 0 a zero-le) at l in
        let j : 2 + i ≡ 1 + suc i = omega arith in
        rw (j, word_stays h (suc i) a d, ← j) (elim (link_value o h i a d) [ inl z ↦ inl z | inr q ↦ inr (q.0, still_start _ q.1) ])
  ]

  heap_made : HeapOk m.width m.k n.heap n.starts (nth n.general 1)
  unfolding is_start granules first_run links link word filled set_reg with_regs
  heap_made = record {
    sized = made_filled.heap_words;
    starts_sized = k.starts_length ∙ o.heap_ok.starts_sized;
    blank = λ i h. k.granule_zero i h ∙ o.heap_ok.blank i h;
    unused = no_start_zero made_filled;
    within = λ h s. (made_filled.start_range h s).1;
    filled = filled_make made (omega (arith, some_card o)) made_filled;
    links-ok = link-ok;
  }

  general_made : GeneralOk n.general
  general_made = record {
    sized = k.general_length ∙ o.general-ok.sized;
    runs = rw (k.general_word 0 (omega arith)) o.general-ok.runs;
    rest = λ i. k.general_word (suc (suc i)) (omega arith) ∙ o.general-ok.rest i;
  }

  pub new_keeps : p < 16 → r < 16 → owed m p ≡ 0 → Undamaged n
  unfolding word links owed is_start set_reg with_regs granules
  new_keeps hp hr ow =
      let s : bit m.width n.starts g ≡ true = sym (new_start g) ∙ k.start_new in
      subst Undamaged (sym k.sections)
      (reg_keeps (reheaped m n.heap n.starts n.general) (reheaped_keeps m u n.heap n.starts n.general heap_made general_made (k.general_word 0 (omega arith)) still_start word_stays) p r g hp hr ow
      (inr ((made_filled.start_range g s).1, s)))

-- ---- the step

-- what an accepted new leaves
pub new_does : (rule : Placing) (m : Image) (s : Step) → Lines m → refusal m s new ≡ 0
    → NewMade m (new_object rule m s.who s.a s.b s.c) s.who s.a s.b s.c (room_for rule m s.b).run
unfolding no_room
new_does rule m s o e =
    let nz : (room_for rule m s.b).run ≡ 0 → ⊥ = eqb-false _ _ (sym (room_test rule m s.b) ∙ line m s new e 6) in
    let q : (room_for rule m s.b).run ≡ suc ((room_for rule m s.b).run - 1) = omega arith in
    let k = good_size s (line m s new e 5) in
    rw q (new_made rule m s.b s.c _ (heap_filled_of o) (heap_sized_of o) k.0 k.1 (omega (arith, k.2)) q s.who s.a)

pub new_step : (rule : Placing) (m : Image) (s : Step) → Undamaged m → refusal m s new ≡ 0 → Undamaged (act rule m s new).image
unfolding act accept off_desk owing owes
new_step rule m s u e =
    let d = some_false _ (line m s new e 1) in
    new_keeps u (new_does rule m s u.sound.lines e) (omega (arith, (good_size s (line m s new e 5)).2)) (not_above 15 s.who (d 0)) (not_above 15 s.a (d 1)) (eqb-true _ _ (not-false _ (some_false _ (line m s new e 2) 0)))
