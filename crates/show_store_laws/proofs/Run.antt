-- One turn of the batch's loop, and its invariant: the records so far have run, their answers stand before what is left of the answer space, and the
-- free granules are counted.
use mathlib.Core.Path.{◌≡◌, refl, sym, ap, ◌∙◌}
use mathlib.Core.List.{List, [], ◌∷◌, ◌++◌, append-nil}
use Prim.Native.Nat.{ℕ, suc, ◌+◌, ◌*◌, ◌/◌, ◌≤◌, ◌<◌, zero-le}
use native.Mathlib.Omega.{arith}
use native.Mathlib.Numerals.{add-one}
use lib.ListN.{length, set, drop, length-append, length-drop, drop_of_length-le}
use lib.Seq.{drop-drop, take_at, drop_at, sets-eq}
use Rattle.model.specs.Base.{table}
use Rattle.model.specs.Image.{Image, image_of}
use Rattle.model.specs.Records.{Step, record_bytes, records}
use Rattle.model.specs.Mutate.{tightest}
use Rattle.model.specs.Steps.{Done, Event, step, run, after, answers_of}
use Rattle.model.proofs.Laws.{table_more}
use Rattle.theory.specs.Lines.{Undamaged}
use Rattle.theory.proofs.steps.Kept.{step_keeps}
use Rattle.theory.proofs.steps.Steps.{run_append}
use Rattle.image_laws.specs.Sized.{Sized}
use Rattle.runs_laws.specs.declared.Free.{Free}
use Rattle.runs_laws.specs.Granules.{free_of}
use Rattle.show_store_laws.specs.Run.{record_at, ran, written_at}
use Rattle.request_laws.specs.Answer.{done}

-- ---- one turn: its step, and its two answer words

pub turn : (m m₁ : Image) (answers : List ℕ) (i : ℕ) (s : Step) (number value : ℕ)
    → done number value m₁ ≡ step tightest m s → (m₁ ≡ (step tightest m s).image) × (set (set answers (2 * i) number) (2 * i + 1) value ≡ written_at answers i (step tightest m s))
unfolding written_at
turn m m₁ answers i s number value d = rw (← d) (refl, refl)

-- ---- runs and answers with one more at the end

after_append : (m : Image) (es fs : List Event) → after m (es ++ fs) ≡ after (after m es) fs
unfolding after
after_append m [] fs = refl
after_append m (e ∷ es) fs = after_append e.done.image es fs

pub answers_append : (es fs : List Event) → answers_of (es ++ fs) ≡ answers_of es ++ answers_of fs
unfolding answers_of
answers_append [] fs = refl
answers_append (e ∷ es) fs = ap (λ l. e.done.number ∷ e.done.value ∷ l) (answers_append es fs)

module _ (w : ℕ) (m : Image) (bytes : List ℕ) (i : ℕ) where
  so_far : Image
  so_far = after m (ran w m bytes i)

  ran_one : ran w m bytes (suc i) ≡ ran w m bytes i ++ run tightest so_far (record_at w bytes i ∷ [])
  unfolding ran so_far
  ran_one = ap (run tightest m) (table_more i (record_at w bytes)) ∙ run_append tightest m (table i (record_at w bytes)) (record_at w bytes i ∷ [])

  after_one : after m (ran w m bytes (suc i)) ≡ (step tightest so_far (record_at w bytes i)).image
  unfolding so_far run after
  after_one = ap (after m) ran_one ∙ after_append m (ran w m bytes i) (run tightest so_far (record_at w bytes i ∷ []))

  answers_one : answers_of (ran w m bytes (suc i)) ≡ answers_of (ran w m bytes i) ++ ((step tightest so_far (record_at w bytes i)).number ∷ (step tightest so_far (record_at w bytes i)).value ∷ [])
  unfolding run answers_of
  answers_one = ap answers_of ran_one ∙ answers_append (ran w m bytes i) (run tightest so_far (record_at w bytes i ∷ []))

-- ---- two words written behind a list

module _ (w : ℕ) (m : Image) (bytes : List ℕ) (i : ℕ) (long : length (answers_of (ran w m bytes i)) ≡ 2 * i) where
  long_one : length (answers_of (ran w m bytes (suc i))) ≡ 2 * suc i
  long_one = rw (answers_one w m bytes i, length-append (answers_of (ran w m bytes i)) ((step tightest (so_far w m bytes i) (record_at w bytes i)).number ∷ (step tightest (so_far w m bytes i) (record_at w bytes i)).value ∷ [])) (omega arith)

  written_one : (answers : List ℕ) → 2 * suc i ≤ length answers
      → written_at (answers_of (ran w m bytes i) ++ drop (2 * i) answers) i (step tightest (so_far w m bytes i) (record_at w bytes i)) ≡ answers_of (ran w m bytes (suc i)) ++ drop (2 * suc i) answers
  unfolding written_at
  written_one answers h =
      let p : List ℕ = answers_of (ran w m bytes i) in
      let r : List ℕ = drop (2 * i) answers in
      let d : Done = step tightest (so_far w m bytes i) (record_at w bytes i) in
      let q : 2 * i + 2 ≡ 2 * suc i = omega arith in
      let o : 2 * i + 1 ≡ suc (2 * i) = omega arith in
      rw (o, answers_one w m bytes i)
      (sets-eq (d.number ∷ d.value ∷ []) (p ++ r) (2 * i) (omega (arith, length-append p r, length-drop (2 * i) answers))
      ∙ rw (take_at p r (2 * i) long, ← (drop-drop 2 (2 * i) (p ++ r)), drop_at p r (2 * i) long, drop-drop 2 (2 * i) answers, q))

-- ---- the invariant

pub record Ran (w k : ℕ) (im₀ bytes answers₀ : List ℕ) (n : ℕ) (im answers : List ℕ) (free : Free) (i : ℕ) : Type 0 where
  pub low : i ≤ n
  pub image : image_of w k im ≡ after (image_of w k im₀) (ran w (image_of w k im₀) bytes i)
  pub written : answers ≡ answers_of (ran w (image_of w k im₀) bytes i) ++ drop (2 * i) answers₀
  pub answers_long : length (answers_of (ran w (image_of w k im₀) bytes i)) ≡ 2 * i
  pub sized : Sized w k im
  pub same : length im ≡ length im₀
  pub long : length answers ≡ length answers₀
  pub undamaged : Undamaged (image_of w k im)
  pub counted : free ≡ free_of (image_of w k im)

pub ran_none : (w k : ℕ) (im bytes answers : List ℕ) (n : ℕ) → Sized w k im → Undamaged (image_of w k im) → (free : Free) → free ≡ free_of (image_of w k im) → Ran w k im bytes answers n im answers free 0
unfolding ran table run after answers_of
ran_none w k im bytes answers n z u free c = record { low = zero-le; image = refl; written = refl; answers_long = refl; sized = z; same = refl; long = refl; undamaged = u; counted = c }

module _ (w k : ℕ) (im₀ bytes answers₀ : List ℕ) (n : ℕ) (im answers : List ℕ) (free : Free) (i : ℕ) (im₁ answers₁ : List ℕ) (free₁ : Free) where
  pub ran_more : Ran w k im₀ bytes answers₀ n im answers free i → i < n → length answers₀ ≡ 2 * n
      → image_of w k im₁ ≡ (step tightest (image_of w k im) (record_at w bytes i)).image → answers₁ ≡ written_at answers i (step tightest (image_of w k im) (record_at w bytes i))
      → free₁ ≡ free_of (image_of w k im₁) → length im₁ ≡ length im → length answers₁ ≡ length answers → Ran w k im₀ bytes answers₀ n im₁ answers₁ free₁ (i + 1)
  ran_more r h l e f u d c =
      let m : Image = image_of w k im₀ in
      let q : step tightest (image_of w k im) (record_at w bytes i) ≡ step tightest (so_far w m bytes i) (record_at w bytes i) = ap (λ x. step tightest x (record_at w bytes i)) (unfold so_far in r.image) in
      record {
        low = omega arith;
        image = rw add-one (e ∙ (ap (λ x. x.image) q ∙ sym (after_one w m bytes i)));
        written = rw add-one (f ∙ (rw (q, r.written) (written_one w m bytes i r.answers_long answers₀ (omega arith))));
        answers_long = rw add-one (long_one w m bytes i r.answers_long);
        sized = record { low = r.sized.low; high = r.sized.high; long = d ∙ r.sized.long };
        same = d ∙ r.same;
        long = c ∙ r.long;
        undamaged = rw e (step_keeps tightest (image_of w k im) (record_at w bytes i) r.undamaged);
        counted = u;
      }

-- ---- the end

module _ (w k : ℕ) (im₀ bytes answers₀ : List ℕ) (n : ℕ) (im answers : List ℕ) (free : Free) where
  pub ran_end : Ran w k im₀ bytes answers₀ n im answers free n → n ≡ length bytes / record_bytes w → length answers₀ ≡ 2 * n
      → (image_of w k im ≡ after (image_of w k im₀) (run tightest (image_of w k im₀) (records w bytes))) × (answers ≡ answers_of (run tightest (image_of w k im₀) (records w bytes)))
  ran_end r h l =
      let m : Image = image_of w k im₀ in
      let e : ran w m bytes n ≡ run tightest m (records w bytes) = unfold ran records record_at in rw h in
      (r.image ∙ ap (after m) e, r.written ∙ (rw (drop_of_length-le answers₀ {i = 2 * n} (omega arith)) (append-nil _) ∙ ap answers_of e))
