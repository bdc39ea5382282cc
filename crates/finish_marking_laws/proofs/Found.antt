-- The seeds are what the rule says, and so the marks are what is found.
use mathlib.Core.Path.{◌≡◌, sym, ap, subst, ◌∙◌}
use mathlib.Core.Logic.{◌⊎◌, inl, inr, ⊎_elim}
use mathlib.Core.List.{List}
use Prim.Native.Nat.{ℕ, ◌+◌, ◌*◌, ◌/◌, ◌%◌, ◌<◌}
use native.Mathlib.Omega.{arith}
use Rattle.model.specs.Base.{nth}
use Rattle.model.specs.Finish.{Due, Found, found_reg, found_link, found_due, kept_marked, kept_found}
use Rattle.model.specs.Image.{Image, granules, marked, links, link, reg}
use Rattle.finish_marking_laws.specs.Follow.{Pending, Reach, object_bit, World, untouched, Followed, follow, seed}
use Rattle.finish_marking_laws.specs.Seeds.{Upto, Refers, HeldAt, Bared, Opened, ListedAll, KeptMarked}
use Rattle.finish_marking_laws.proofs.Dues.{Dues, dues_due, due_dues}
use Rattle.finish_marking_laws.proofs.Fits.{Fit}
use Rattle.finish_marking_laws.proofs.follow.Grown.{same_links, same_link}
use Rattle.finish_marking_laws.proofs.seeds.Bared.{same_section}
use Rattle.image_laws.specs.Digits.{mark_bit, start_bit}
use Rattle.image_laws.proofs.Digits.{digit_two, digit_on, digit_off, same_digit, on_digit, off_digit}

module _ {k : ℕ} {m m3 m4 m5 : Image} {h : ℕ} (f : Fit k m) (d : Bared m m3 (Dues k m)) (o : Opened m3 m4 (Upto (HeldAt m3.regs (mark_bit m3)) 256)) (t : ListedAll k m4 m5 h) where
  mark3 : (g : ℕ) → mark_bit m3 g ≡ mark_bit m g
  mark3 g = ap (λ (w : ℕ → ℕ). w g) d.marks

  mark5 : (g : ℕ) → mark_bit m5 g ≡ mark_bit m4 g
  mark5 g = ap (λ (w : ℕ → ℕ). w g) t.marks

  start5 : (g : ℕ) → start_bit m5 g ≡ start_bit m4 g
  start5 g = ap (λ (w : ℕ → ℕ). w g) t.starts

  pub heap5 : m5.heap ≡ m.heap
  heap5 = t.heap ∙ o.heap ∙ d.heap

  pub rest5 : untouched m5 ≡ untouched m
  rest5 = t.rest ∙ o.rest ∙ d.rest

  links5 : (g : ℕ) → links m5 g ≡ links m g
  links5 g = same_links m m5 heap5 g

  link5 : (g i : ℕ) → link m5 g i ≡ link m g i
  link5 g i = same_link m m5 heap5 g i

  -- some register holds g
  abbrev Hold : ℕ → Type 0
  Hold g = Upto (λ i. Refers (nth m.regs i)) 256 g

  from : (g : ℕ) → Upto (HeldAt m3.regs (mark_bit m3)) 256 g → Hold g × (mark_bit m g ≡ 0)
  from g q = (record { place = q.place; below = q.below; here = subst (λ (l : List ℕ). Refers (nth l q.place) g) (same_section d.rest 0) q.here.is }, sym (mark3 g) ∙ q.here.bare)

  to : (g : ℕ) → Hold g → mark_bit m g ≡ 0 → Upto (HeldAt m3.regs (mark_bit m3)) 256 g
  to g q u = record { place = q.place; below = q.below; here = record { is = subst (λ (l : List ℕ). Refers (nth l q.place) g) (sym (same_section d.rest 0)) q.here; bare = mark3 g ∙ u } }

  hold_in : (g : ℕ) → Hold g → (g < 64 * k) × (start_bit m g ≡ 1)
  hold_in g q = rw q.here.eq (f.regs q.place q.below q.here.some)

  -- marked now: marked at first, or held
  marked_from : (g : ℕ) → mark_bit m5 g ≡ 1 → (mark_bit m g ≡ 1) ⊎ Hold g
  marked_from g e = ⊎_elim (λ q. inr (from g q).0) (λ q. inl (sym (mark3 g) ∙ sym q.0 ∙ sym (mark5 g) ∙ e)) (o.only g)

  marked_to : (g : ℕ) → (mark_bit m g ≡ 1) ⊎ Hold g → mark_bit m5 g ≡ 1
  marked_to g q = mark5 g ∙ elim (o.only g) [
    | inl r ↦ (o.has g r).is_marked
    | inr r ↦ ⊎_elim (λ z. ⊎_elim (λ e. r.0 ∙ mark3 g ∙ e) (λ h. (o.has g (to g h z)).is_marked) q) (λ z. r.0 ∙ mark3 g ∙ z) (digit_two (marked m g))
  ]

  -- pending now: marked and due, or unmarked and held
  pending_from : (g : ℕ) → Pending m5 g → ((mark_bit m g ≡ 1) × Due m g) ⊎ (Hold g × (mark_bit m g ≡ 0))
  pending_from g q = elim (o.only g) [
    | inl r ↦ inr (from g r)
    | inr r ↦ ⊎_elim
        (λ e. inl (dues_due k m f g e))
        (λ e. absurd (let x : mark_bit m g ≡ 1 = sym (mark3 g) ∙ sym r.0 ∙ sym (mark5 g) ∙ q.is_marked in omega (arith, (f.marks g x).1, start5 g, r.1, q.bare)))
        (d.only g)
  ]

  pending_to : (g : ℕ) → ((mark_bit m g ≡ 1) × Due m g) ⊎ (Hold g × (mark_bit m g ≡ 0)) → Pending m5 g
  pending_to g (inr q) = let p = o.has g (to g q.0 q.1) in record { is_marked = mark5 g ∙ p.is_marked; bare = start5 g ∙ p.bare }
  pending_to g (inl q) = elim (o.only g) [
    | inl r ↦ absurd (omega (arith, (from g r).1, q.0))
    | inr r ↦ record { is_marked = mark5 g ∙ r.0 ∙ mark3 g ∙ q.0; bare = start5 g ∙ r.1 ∙ d.has g (due_dues k m f g q.0 q.1) }
  ]

  -- the objects are the same
  objects : (g : ℕ) → object_bit m5 g ≡ start_bit m g
  objects g = rw (mark5 g, start5 g) (elim (o.only g) [
    | inl r ↦ omega (arith, (o.has g r).is_marked, (o.has g r).bare, (hold_in g (from g r).0).1)
    | inr r ↦ ⊎_elim
        (λ e. let x = dues_due k m f g e in omega (arith, r.0, r.1, mark3 g, x.0, d.has g e, (f.marks g x.0).1))
        (λ e. ⊎_elim (λ u. omega (arith, r.0, r.1, mark3 g)) (λ u. omega (arith, r.0, r.1, mark3 g, (f.marks g u).1)) (digit_two (marked m g)))
        (d.only g)
  ])

  objects_first : (g : ℕ) → object_bit m g ≡ start_bit m g
  objects_first g = ⊎_elim (λ u. omega arith) (λ u. omega (arith, (f.marks g u).1)) (digit_two (marked m g))

  pub world5 : World k m5
  world5 = record {
    inside = λ g e. rw (links5 g) (f.world.inside g (objects_first g ∙ sym (objects g) ∙ e));
    target = λ g i e l n.
        let r = f.world.target g i (objects_first g ∙ sym (objects g) ∙ e) (rw (links5 g) at l) (rw (link5 g i) at n) in
        rw (link5 g i) (r.0, objects (link m g i) ∙ sym (objects_first (link m g i)) ∙ r.1);
  }

  -- marks lie in the store
  pub marks_in : (g : ℕ) → mark_bit m4 g ≡ 1 → g < 64 * k
  marks_in g e = ⊎_elim (λ q. (f.marks g q).0) (λ q. (hold_in g q).0) (marked_from g (mark5 g ∙ e))

  -- ---- what is reached from the pending is what is found

  -- a register by its place
  found_held : (g : ℕ) → Hold g → Found m g
  unfolding reg
  found_held g q =
      let s : 16 * (q.place / 16) + q.place % 16 ≡ q.place = omega arith in
      found_reg (q.place / 16) (q.place % 16) (omega (arith, q.below)) (omega arith) (ap (nth m.regs) s ∙ sym q.here.eq) (λ z. q.here.some (sym q.here.eq ∙ z))

  reach_found : {a : ℕ} → Reach m5 a → Found m a
  unfolding granules
  reach_found (seed g i q l e n) =
      ⊎_elim
      (λ p. found_due g i (rw f.number (f.marks g p.0).0) (on_digit _ p.0) p.1 (rw (links5 g) at l) (sym (link5 g i) ∙ e) n)
      (λ p. found_link g i (found_held g p.0) (off_digit _ p.1) (rw (links5 g) at l) (sym (link5 g i) ∙ e) n)
      (pending_from g q)
  reach_found (follow g i r u l e n) =
      let z : mark_bit m g ≡ 0 = ⊎_elim (λ z. z) (λ z. absurd (omega (arith, marked_to g (inl z)))) (digit_two (marked m g)) in
      found_link g i (reach_found r) (off_digit _ z) (rw (links5 g) at l) (sym (link5 g i) ∙ e) n

  -- a step from what is found unmarked
  onward : (g i a : ℕ) → (mark_bit m5 g ≡ 1) ⊎ Reach m5 g → mark_bit m g ≡ 0 → i < links m g → link m g i ≡ a → (a ≡ 0 → ⊥) → Reach m5 a
  onward g i a q u l e n =
      let l' : i < links m5 g = rw (links5 g) l in
      elim (digit_two (marked m5 g)) [
        | inr o ↦ ⊎_elim (λ z. absurd (omega arith)) (λ h. seed g i (pending_to g (inr (h, u))) l' (link5 g i ∙ e) n) (marked_from g o)
        | inl z ↦ ⊎_elim (λ o. absurd (omega arith)) (λ r. follow g i r z l' (link5 g i ∙ e) n) q
      ]

  found_reach : {a : ℕ} → Found m a → (mark_bit m5 a ≡ 1) ⊎ Reach m5 a
  unfolding reg
  found_reach {a} (found_reg p r hp hr e n) = inl (marked_to a (inr (record { place = 16 * p + r; below = omega arith; here = record { eq = sym e; some = λ z. n (sym e ∙ z) } })))
  found_reach {a} (found_link g i r u l e n) = inr (onward g i a (found_reach r) (digit_off u) l e n)
  found_reach (found_due g i hg o' q l e n) = inr (seed g i (pending_to g (inl (digit_on o', q))) (rw (links5 g) l) (link5 g i ∙ e) n)

  pub all_kept : (m6 : Image) → Followed k m5 m6 → KeptMarked m m6
  all_kept m6 r =
      record {
        heap = r.heap ∙ heap5;
        rest = r.rest ∙ rest5;
        starts = λ g. same_digit _ _ (r.starts g ∙ objects g);
        only = λ g e. ⊎_elim (λ q. ⊎_elim (λ z. kept_marked (on_digit _ z)) (λ p. kept_found (found_held g p)) (marked_from g q)) (λ q. kept_found (reach_found q)) (r.kept g (digit_on e));
        all = λ g q. on_digit _ (r.keeps g (elim q [ kept_marked e ↦ inl (marked_to g (inl (digit_on e))) | kept_found p ↦ found_reach p ]));
        cards = r.cards;
      }
