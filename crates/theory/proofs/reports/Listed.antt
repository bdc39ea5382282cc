-- A report with a stretch for each object that a finish freed has no bad stretch and covers just what was freed.
use mathlib.Core.Path.{◌≡◌, refl, sym, ap, ◌∙◌}
use mathlib.Core.Logic.{inl, inr}
use mathlib.Core.Bool.{Bool, true, false, not}
use mathlib.Core.List.{List, [], ◌∷◌, Memᴰ}
use Prim.Native.Nat.{ℕ, zero, suc, ◌+◌, ◌*◌, ◌≤◌, ◌<◌}
use native.Mathlib.Omega.{arith}
use native.Mathlib.Nat.{le_of_suc-le-suc}
use native.Mathlib.Decide.{ℕ_discrete}
use lib.ListN.{length}
use borrow.Author.Tests.{le-leb, lt-ltb, leb-true, ltb-true, not-true}
use Rattle.model.specs.Base.{nth}
use Rattle.model.specs.Image.{Image, granules, is_start, size}
use Rattle.model.specs.Records.{little}
use Rattle.model.specs.Report.{stretch_count, stretch_start, stretch_length, stretch_record, stretch_end, in_stretch, covered, lowest_start, whole_objects, good_stretch, bad_stretch}
use Rattle.model.specs.OwnReport.{freed_by, SomeReport}
use Rattle.model.proofs.Laws.{false≢, bool_cases, and_split, and_join, same_test, any_use, any_make, all_make, every_use, every_cons, every_nil}
use Rattle.theory.specs.Heap.{ObjectAt}
use Rattle.theory.specs.Lines.{Lines}
use Rattle.theory.specs.Report.{no_more, one_more, passing, gone_by, stretches_of, gone_objects}
use Rattle.theory.proofs.heap.Facts.{heap_filled_of, laid_of}
use Rattle.theory.proofs.heap.Walk.{object-at}
use Rattle.theory.proofs.reports.Whole.{whole_is}

-- ---- the numbers that pass, in their order

module _ (p : ℕ → Bool) where
  passing_on : (i c : ℕ) → p i ≡ true → passing p i (suc c) ≡ i ∷ passing p (suc i) c
  unfolding passing
  passing_on i c e = rw e

  passing_off : (i c : ℕ) → p i ≡ false → passing p i (suc c) ≡ passing p (suc i) c
  unfolding passing
  passing_off i c e = rw e

  record PassesAt (i c a : ℕ) : Type 0 where
    passes : p a ≡ true
    low : i ≤ a
    high : a < i + c

  later : {i c a : ℕ} → PassesAt (suc i) c a → PassesAt i (suc c) a
  later r = record { passes = r.passes; low = omega (arith, r.low); high = omega (arith, r.high) }

  passing_at : (i c j : ℕ) → j < length (passing p i c) → PassesAt i c (nth (passing p i c) j)
  unfolding passing nth
  passing_at i zero j h = absurd (omega arith)
  passing_at i (suc c) j h = elim (bool_cases (p i)) [
    | inl e ↦ rw (passing_on i c e) (here e (λ j l. later (passing_at (suc i) c j l)) j (rw (passing_on i c e) at h))
    | inr e ↦ rw (passing_off i c e) (later (passing_at (suc i) c j (rw (passing_off i c e) at h)))
  ]
    where
      here : p i ≡ true → ((j : ℕ) → j < length (passing p (suc i) c) → PassesAt i (suc c) (nth (passing p (suc i) c) j))
          → (j : ℕ) → j < length (i ∷ passing p (suc i) c) → PassesAt i (suc c) (nth (i ∷ passing p (suc i) c) j)
      here e ih zero l = record { passes = e; low = omega arith; high = omega arith }
      here e ih (suc j) l = ih j (le_of_suc-le-suc l)

  passing_rises : (i c j : ℕ) → suc j < length (passing p i c) → nth (passing p i c) j < nth (passing p i c) (suc j)
  unfolding passing nth
  passing_rises i zero j h = absurd (omega arith)
  passing_rises i (suc c) j h = elim (bool_cases (p i)) [
    | inl e ↦ rw (passing_on i c e) (here (passing_rises (suc i) c) j (rw (passing_on i c e) at h))
    | inr e ↦ rw (passing_off i c e) (passing_rises (suc i) c j (rw (passing_off i c e) at h))
  ]
    where
      here : ((j : ℕ) → suc j < length (passing p (suc i) c) → nth (passing p (suc i) c) j < nth (passing p (suc i) c) (suc j))
          → (j : ℕ) → suc j < length (i ∷ passing p (suc i) c) → nth (i ∷ passing p (suc i) c) j < nth (i ∷ passing p (suc i) c) (suc j)
      here ih zero l = (passing_at (suc i) c 0 (le_of_suc-le-suc l)).low
      here ih (suc j) l = ih j (le_of_suc-le-suc l)

  passing_has : (i c a : ℕ) → PassesAt i c a → (j : ℕ) × (j < length (passing p i c)) × (nth (passing p i c) j ≡ a)
  unfolding passing nth
  passing_has i zero a r = absurd (omega (arith, r.low, r.high))
  passing_has i (suc c) a r = elim (bool_cases (p i)) [
    | inl e ↦ rw (passing_on i c e) (elim (ℕ_discrete i a) [ yes q ↦ (0, omega arith, q) | no q ↦ let s = passing_has (suc i) c a (after q) in (suc s.0, omega (arith, s.1), s.2) ])
    | inr e ↦ rw (passing_off i c e) (passing_has (suc i) c a (after (λ q. false≢ (sym e ∙ (ap p q ∙ r.passes)))))
  ]
    where
      after : (i ≡ a → ⊥) → PassesAt (suc i) c a
      after q = record { passes = r.passes; low = omega (arith, r.low); high = omega (arith, r.high) }

-- ---- records that are read as they were written

module _ (m : Image) where
  -- numbers that have room in a record
  record Small (a : ℕ) : Type 0 where
    start_small : a < 65536
    size_small : size m a < 65536

  written_length : (l : List ℕ) → length (stretches_of m l) ≡ 4 * length l
  unfolding stretches_of stretch_record
  written_length [] = refl
  written_length (a ∷ l) = omega (arith, written_length l)

  written_count : (l : List ℕ) → stretch_count (stretches_of m l) ≡ length l
  unfolding stretch_count
  written_count l = rw (written_length l) (omega arith)

  written_start : (l : List ℕ) (i : ℕ) → i < length l → Small (nth l i) → stretch_start (stretches_of m l) i ≡ nth l i
  unfolding stretch_start stretches_of stretch_record little nth
  written_start [] i h s = absurd (omega arith)
  written_start (a ∷ l) zero h s = omega arith
  written_start (a ∷ l) (suc i) h s = let e : 4 * suc i ≡ suc (suc (suc (suc (4 * i)))) = omega arith in rw e (written_start l i (le_of_suc-le-suc h) s)

  written_size : (l : List ℕ) (i : ℕ) → i < length l → Small (nth l i) → stretch_length (stretches_of m l) i ≡ size m (nth l i)
  unfolding stretch_length stretches_of stretch_record little nth
  written_size [] i h s = absurd (omega arith)
  written_size (a ∷ l) zero h s = omega arith
  written_size (a ∷ l) (suc i) h s = let e : 4 * suc i + 2 ≡ suc (suc (suc (suc (4 * i + 2)))) = omega arith in rw e (written_size l i (le_of_suc-le-suc h) s)

  written_bytes : (l : List ℕ) → ((i : ℕ) → i < length l → Small (nth l i)) → (b : ℕ) → Memᴰ b (stretches_of m l) → b < 256
  unfolding stretches_of stretch_record nth
  written_bytes [] s b h = elim h [ ]
  written_bytes (a ∷ l) s b (Memᴰ.head e) = omega arith
  written_bytes (a ∷ l) s b (Memᴰ.tail (Memᴰ.head e)) = omega (arith, (s 0 (omega arith)).start_small)
  written_bytes (a ∷ l) s b (Memᴰ.tail (Memᴰ.tail (Memᴰ.head e))) = omega arith
  written_bytes (a ∷ l) s b (Memᴰ.tail (Memᴰ.tail (Memᴰ.tail (Memᴰ.head e)))) = omega (arith, (s 0 (omega arith)).size_small)
  written_bytes (a ∷ l) s b (Memᴰ.tail (Memᴰ.tail (Memᴰ.tail (Memᴰ.tail k)))) = written_bytes l (λ i h. s (suc i) (omega arith)) b k

-- ---- the objects that a finish freed, a stretch each

module _ (m n : Image) (o : Lines m) (few : granules m < 65536) where
  gone : List ℕ
  gone = gone_objects m n

  bytes : List ℕ
  bytes = stretches_of m gone

  object : (a : ℕ) → is_start m a ≡ true → ObjectAt m a
  object = object-at m (heap_filled_of o)

  -- stretch i is an object that is gone
  record Gone (i : ℕ) : Type 0 where
    was : is_start m (nth gone i) ≡ true
    goes : is_start n (nth gone i) ≡ false
    small : Small m (nth gone i)

  gone_at : (i : ℕ) → i < length gone → Gone i
  unfolding gone gone_by
  gone_at i h =
      let r = passing_at (gone_by m n) 0 (granules m) i h in
      let q = and_split _ _ r.passes in
      record { was = q.0; goes = not-true _ q.1; small = record { start_small = omega (arith, r.high); size_small = omega (arith, (object (nth gone i) q.0).in_heap) } }

  start_is : (i : ℕ) → i < length gone → stretch_start bytes i ≡ nth gone i
  unfolding bytes
  start_is i h = written_start m gone i h (gone_at i h).small

  size_is : (i : ℕ) → i < length gone → stretch_length bytes i ≡ size m (nth gone i)
  unfolding bytes
  size_is i h = written_size m gone i h (gone_at i h).small

  end_is : (i : ℕ) → i < length gone → stretch_end bytes i ≡ nth gone i + size m (nth gone i)
  unfolding stretch_end
  end_is i h = rw (start_is i h, size_is i h)

  -- objects lie apart, and the first is no lower than granule 1
  low_is : (i : ℕ) → i < length gone → lowest_start bytes i ≤ nth gone i
  unfolding lowest_start gone
  low_is zero h = ((heap_filled_of o).start_range (nth gone 0) (gone_at 0 h).was).0
  low_is (suc i) h =
      rw (end_is i (omega arith)) ((laid_of o).apart (nth gone i) (nth gone (suc i)) (gone_at i (omega arith)).was (gone_at (suc i) h).was (passing_rises (gone_by m n) 0 (granules m) i h))

  whole_at : (a : ℕ) → is_start m a ≡ true → whole_objects m (size m a) a (a + size m a) ≡ true
  whole_at a e = (whole_is m (λ g s. (object g s).sized) a (size m a)).1 (one_more e (no_more refl))

  good_at : (i : ℕ) → i < length gone → good_stretch m bytes i ≡ true
  unfolding good_stretch
  good_at i h =
      let q = gone_at i h in
      let b = object (nth gone i) q.was in
      rw (end_is i h, start_is i h, size_is i h)
      (every_cons _ _ (le-leb 1 _ b.sized) (every_cons _ _ (le-leb _ _ (low_is i h)) (every_cons _ _ (le-leb _ _ b.in_heap) (every_cons _ _ (whole_at (nth gone i) q.was) every_nil))))

  covered_freed : (g : ℕ) → covered bytes g ≡ true → freed_by m n g ≡ true
  unfolding covered in_stretch freed_by bytes
  covered_freed g e =
      let u = any_use (stretch_count bytes) (in_stretch bytes g) e in
      let h : u.0 < length gone = omega (arith, u.1, written_count m gone) in
      let v = every_use _ u.2 in
      let l = leb-true (stretch_start bytes u.0) g (v 0) in
      let b = ltb-true g (stretch_end bytes u.0) (v 1) in
      let q = gone_at u.0 h in
      any_make (suc g) _ (nth gone u.0) (omega (arith, l, start_is u.0 h))
      (every_cons _ _ q.was (every_cons _ _ (ap not q.goes) (every_cons _ _ (lt-ltb g (nth gone u.0 + size m (nth gone u.0)) (omega (arith, b, end_is u.0 h))) every_nil)))

  freed_covered : (g : ℕ) → freed_by m n g ≡ true → covered bytes g ≡ true
  unfolding covered in_stretch freed_by gone_by gone bytes
  freed_covered g e =
      let u = any_use (suc g) _ e in
      let v = every_use _ u.2 in
      let s : is_start m u.0 ≡ true = v 0 in
      let r = passing_has (gone_by m n) 0 (granules m) u.0 (record { passes = and_join _ _ s (v 1); low = omega arith; high = omega (arith, ((heap_filled_of o).start_range u.0 s).1) }) in
      any_make (stretch_count bytes) _ r.0 (omega (arith, r.1, written_count m gone))
      (every_cons _ _ (le-leb (stretch_start bytes r.0) g (omega (arith, u.1, start_is r.0 r.1, r.2))) (every_cons _ _ (lt-ltb g (stretch_end bytes r.0) (rw (end_is r.0 r.1, r.2) (ltb-true _ _ (v 2)))) every_nil))

  pub some_report : SomeReport m n
  unfolding bad_stretch bytes
  some_report = record {
    bytes = bytes;
    are_bytes = written_bytes m gone (λ i h. (gone_at i h).small);
    is_report = record {
      whole_records = rw (written_length m gone) (omega arith);
      none_bad = ap not (all_make (stretch_count bytes) _ (λ i h. good_at i (omega (arith, h, written_count m gone))));
      exactly_freed = λ g. same_test _ _ (covered_freed g) (freed_covered g);
    };
  }
