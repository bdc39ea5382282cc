-- With a new object in the lowest run that suffices, pieces fill the heap again.
use mathlib.Core.Path.{◌≡◌, refl, sym, ap, subst, ◌∙◌}
use mathlib.Core.Logic.{◌⊎◌, inl, inr}
use mathlib.Core.Bool.{Bool, true, false}
use Prim.Native.Nat.{ℕ, ◌+◌, ◌*◌, ◌≤◌, ◌<◌}
use native.Mathlib.Decide.{ℕ_discrete}
use native.Mathlib.Omega.{arith}
use borrow.Author.Tests.{eq-eqb, ne_eqb}
use Rattle.model.specs.Base.{nth}
use Rattle.model.specs.Image.{Image, granules, word, is_start}
use Rattle.theory.specs.Heap.{Bare}
use Rattle.theory.specs.Pieces.{Pieces, ObjectHere, RunHere, at_end, at_object, at_run, past_object, past_run, place_here, ObjectIn, RunIn, PiecesIn, PlaceIn}
use Rattle.theory.specs.New.{Carved, following}
use Rattle.theory.proofs.heap.Pieces.{loosen}

-- ---- where the places lie

pub place_order : (m : Image) {b x next last r before : ℕ} {f : Bool} → PlaceIn m b x next f last r before → (x ≤ r) × ((before ≡ last) ⊎ ((x ≤ before) × (before < r)))
place_order m (past_object o p) = let k = place_order m p in (omega (arith, k.0), elim k.1 [ inl e ↦ inl e | inr l ↦ inr (omega arith) ])
place_order m (past_run o p) = let k = place_order m p in (omega (arith, k.0), inr (elim k.1 [ inl e ↦ omega (arith, k.0) | inr l ↦ omega arith ]))
place_order m (place_here o l p) = (omega arith, inl refl)

pub place_below : (m : Image) {b x next last r before : ℕ} {f : Bool} → PlaceIn m b x next f last r before → last < x → before < r
place_below m p h = let k = place_order m p in elim k.1 [ inl e ↦ omega (arith, k.0) | inr l ↦ l.1 ]

module _ (m n : Image) (b c r before next : ℕ) (w : Carved m n b c r before next) (hb : 1 ≤ b) (below : before < r) where
  -- pieces of n are those of m's granules
  abbrev Obj : ℕ → Type 0
  Obj = ObjectHere (is_start n) (word n) (granules m)

  abbrev Run : ℕ → Type 0
  Run = RunHere (is_start n) (word n) (granules m)

  abbrev Now : ℕ → ℕ → Bool → Type 0
  Now = Pieces (is_start n) (word n) (granules m)

  -- words of granules before the run, but the pointer of the run before it
  pub word_before : (h i : ℕ) → 4 * h + i < 4 * r → (4 * h + i ≡ 4 * before + 1 → ⊥) → word n h i ≡ word m h i
  unfolding word
  word_before h i l nb = w.others (4 * h + i) (omega arith) (omega arith) (λ u. nb) (λ k. omega arith)

  pub word_after : (h i : ℕ) → r + word m r 0 ≤ h → b ≤ word m r 0 → word n h i ≡ word m h i
  unfolding word
  word_after h i l lb = w.others (4 * h + i) (omega arith) (omega arith) (λ u. omega arith) (λ k. omega arith)

  bare_same : (x s : ℕ) → ((h : ℕ) → x < h → h < x + s → h ≡ r → ⊥) → Bare (is_start m) x s → Bare (is_start n) x s
  bare_same x s off ba h p q = w.start_old h (off h p q) ∙ ba h p q

  -- a piece whose two first words stay
  object_same : (x : ℕ) → (x ≡ r → ⊥) → word n x 0 ≡ word m x 0 → word n x 1 ≡ word m x 1 → ((h : ℕ) → x < h → h < x + word m x 0 → h ≡ r → ⊥) → ObjectIn m x → Obj x
  object_same x ne e e₁ off o = record {
    starts = w.start_old x ne ∙ o.starts;
    long = rw e o.long;
    few = rw e o.few;
    links_fit = rw (e, e₁) o.links_fit;
    ends = rw e o.ends;
    alone = rw e (bare_same x (word m x 0) off o.alone);
  }

  run_same : (x : ℕ) → (x ≡ r → ⊥) → word n x 0 ≡ word m x 0 → ((i : ℕ) → 2 + i < 4 * word m x 0 → word n x (2 + i) ≡ word m x (2 + i)) → ((h : ℕ) → x < h → h < x + word m x 0 → h ≡ r → ⊥) → RunIn m x → Run x
  run_same x ne e es off o = record {
    no_start = w.start_old x ne ∙ o.no_start;
    long = rw e o.long;
    ends = rw e o.ends;
    alone = rw e (bare_same x (word m x 0) off o.alone);
    zero_words = rw e (λ i l. es i l ∙ o.zero_words i l);
  }

  -- ---- behind the run nothing changes

  behind : {x nx : ℕ} {f : Bool} → b ≤ word m r 0 → PiecesIn m x nx f → r + word m r 0 ≤ x → Now x nx f
  behind lb at_end l = at_end
  behind {x} {nx} lb (at_object o p) l =
      let e : word n x 0 ≡ word m x 0 = word_after x 0 l lb in
      at_object (object_same x (omega arith) e (word_after x 1 l lb) (λ h u v. omega arith) o)
      (subst (λ y. Now (x + y) nx false) (sym e) (behind lb p (omega arith)))
  behind {x} lb (at_run o p) l =
      let e : word n x 0 ≡ word m x 0 = word_after x 0 l lb in
      at_run (run_same x (omega arith) e (λ i k. word_after x (2 + i) l lb) (λ h u v. omega arith) o)
      (rw (e, word_after x 1 l lb) (behind lb p (omega arith)))

  -- ---- the run itself

  module _ (o : RunIn m r) (lb : b ≤ word m r 0) (few : b ≤ 1024) (fits : c + 2 ≤ 4 * b) where
    object_here : Obj r
    object_here = record {
      starts = w.start_new;
      long = rw w.size_new hb;
      few = rw w.size_new few;
      links_fit = rw (w.size_new, w.links_new) fits;
      ends = rw w.size_new (omega arith);
      alone = rw w.size_new (bare_same r b (λ h p q. omega arith) (λ h p q. o.alone h p (omega arith)));
    }

    left_here : b < word m r 0 → Run (r + b)
    unfolding word
    left_here l = record {
      no_start = w.start_old (r + b) (omega arith) ∙ o.alone (r + b) (omega arith) (omega arith);
      long = omega (arith, w.left_size l);
      ends = omega (arith, w.left_size l);
      alone = λ h p q. w.start_old h (omega arith) ∙ o.alone h (omega arith) (omega (arith, w.left_size l));
      zero_words = λ i k.
          let j : 4 * (r + b) + (2 + i) ≡ 4 * r + (2 + (4 * b + i)) = omega arith in
          w.others (4 * (r + b) + (2 + i)) (omega arith) (omega arith) (λ u. omega arith) (λ k. omega arith)
          ∙ (ap (nth m.heap) j ∙ o.zero_words (4 * b + i) (omega (arith, w.left_size l)));
    }

    here : PiecesIn m (r + word m r 0) (word m r 1) true → Now r next false
    here p =
        let rest : Now (r + word m r 0) (word m r 1) true = behind lb p (omega arith) in
        at_object {next = next} object_here (rw w.size_new (elim (ℕ_discrete (word m r 0) b) [
          | yes e ↦ rw (w.none_left e) (rw e at (loosen (is_start n) (word n) (granules m) rest))
          | no e ↦
              let l : b < word m r 0 = omega arith in
              let j : r + word m r 0 ≡ r + b + word n (r + b) 0 = omega (arith, w.left_size l) in
              rw (w.left_next l) (at_run (left_here l) (rw (w.left_pointer l, ← j) rest))
        ]))

  -- ---- all pieces, from granule x on, behind the run `last`

  pub other_last : (last now : ℕ) → (last ≡ before → ⊥) → following before next last now ≡ now
  other_last last now ne = rw (ne_eqb last before ne)

  pub same_last : (last now : ℕ) → last ≡ before → following before next last now ≡ next
  same_last last now e = rw (eq-eqb last before e)

  -- a run before the one that is taken points where it did, or at what is left
  pub run_points : (x : ℕ) {nx : ℕ} {f : Bool} → PlaceIn m b (x + word m x 0) nx f x r before → 1 ≤ x → 1 ≤ word m x 0 → word n x 1 ≡ following before next x (word m x 1)
  run_points x p h long = elim (place_order m p).1 [
    | inl y ↦ ap (λ y. word n y 1) (sym y) ∙ (w.pointer (omega arith) ∙ sym (same_last x (word m x 1) (sym y)))
    | inr y ↦ word_before x 1 (omega (arith, (place_order m p).0)) (omega arith) ∙ sym (other_last x (word m x 1) (omega arith))
  ]

  pub carve : {x nx last : ℕ} {f : Bool} → b ≤ 1024 → c + 2 ≤ 4 * b → PlaceIn m b x nx f last r before → last < x → Now x (following before next last nx) f
  carve {x} {nx} {last} few fits (past_object o p) h =
      let past : x + word m x 0 ≤ r = (place_order m p).0 in
      let e : word n x 0 ≡ word m x 0 = word_before x 0 (omega arith) (omega arith) in
      let off : x ≡ before → ⊥ = elim (place_order m p).1 [ inl y ↦ omega arith | inr y ↦ omega arith ] in
      at_object {next = following before next last nx}
      (object_same x (omega arith) e (word_before x 1 (omega arith) (λ q. off (omega arith))) (λ i u v. omega arith) o)
      (rw e (carve few fits p (omega arith)))
  carve {x} {last = last} few fits (past_run o p) h =
      let past : x + word m x 0 ≤ r = (place_order m p).0 in
      let d = (place_order m p).1 in
      let up : x ≤ before = elim d [ inl y ↦ omega arith | inr y ↦ omega arith ] in
      let e : word n x 0 ≡ word m x 0 = word_before x 0 (omega arith) (omega arith) in
      let off : (i : ℕ) → 2 + i < 4 * word m x 0 → 4 * x + (2 + i) ≡ 4 * before + 1 → ⊥ = λ i k. elim d [ inl y ↦ omega arith | inr y ↦ omega arith ] in
      subst (λ y. Now x y false) (sym (other_last last x (omega arith)))
      (at_run (run_same x (omega arith) e (λ i k. word_before x (2 + i) (omega arith) (off i k)) (λ i u v. omega arith) o)
      (rw (e, run_points x p (omega arith) o.long) (carve few fits p (omega arith))))
  carve {x} {last = last} few fits (place_here o l p) h = subst (λ y. Now x y false) (sym (same_last last x refl)) (here o l few fits p)
