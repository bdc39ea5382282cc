-- The ways out of the step that finishes, kind 13.
use mathlib.Core.Path.{◌≡◌, refl, ap, ◌∙◌}
use Prim.Native.Nat.{ℕ}
use borrow.Author.Tests.{eq-eqb, ne_eqb}
use Rattle.model.specs.Image.{Image, running}
use Rattle.model.specs.Records.{finish, kind_of}
use Rattle.model.specs.Finish.{finish_step}
use Rattle.model.specs.Mutate.{tightest}
use Rattle.model.specs.Steps.{numbers_open, finish_done, accept, act, step}
use Rattle.request_laws.specs.Answer.{done, asked}
use Rattle.request_laws.specs.Passed.{Passed}
use Rattle.request_laws.proofs.Numbers.{number_10, number_0}
use Rattle.finish_laws.specs.Ending.{finished}

-- with all fields 0
finish_passes : (m : Image) → Passed m (asked 13 0 0 0 0) finish
unfolding numbers_open kind_of asked
finish_passes m = record { is_kind = refl; named = refl; on_desk = refl; none_owed = refl }

module _ (m : Image) (x : ℕ) (ex : x ≡ running m) where
  pub finish_idle : x ≡ 0 → done 10 0 m ≡ step tightest m (asked 13 0 0 0 0)
  unfolding numbers_open asked
  finish_idle e = number_10 (finish_passes m) refl refl refl refl (rw (← ex) (eq-eqb x 0 e))

  pub finish_accepted : (x ≡ 0 → ⊥) → (v : ℕ) (n : Image) → finished v n ≡ finish_step m → done 0 v n ≡ step tightest m (asked 13 0 0 0 0)
  unfolding numbers_open asked act finish_done accept
  finish_accepted h v n e = ap finish_done e ∙ number_0 (finish_passes m) refl refl refl refl (rw (← ex) (ne_eqb x 0 h)) refl
