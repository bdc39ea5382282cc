-- What is said of the worked images that document 01 leads to, and of dues, by computation. The must-fail edits of this crate fall to these.
use mathlib.Core.Path.{◌≡◌, refl}
use mathlib.Core.Bool.{true}
use mathlib.Core.List.{[], ◌∷◌}
use Rattle.model.specs.Image.{parts}
use Rattle.model.specs.Undamaged.{sound}
use Rattle.model.specs.Batch.{judge_of, finish_of}
use Rattle.model.specs.Open.{model_open}
use Rattle.model.specs.Cases.{bytes, one_card, ok, cases_open}
use Rattle.model.specs.Examples.{link_behind, owed_by_one, owed_and_held, all_freed, dues_near, examples_open}

-- a link before the next one of an object in hand: Cover fails, and a finish, which goes by object, keeps what it links to
pub behind_sound : sound (parts 16 link_behind) ≡ true
unfolding model_open cases_open examples_open
behind_sound = refl

pub behind_uncovered : judge_of link_behind ≡ 2
unfolding model_open cases_open examples_open
behind_uncovered = refl

pub behind_kept : (finish_of link_behind).value ≡ 0
unfolding model_open cases_open examples_open
behind_kept = refl

-- the player who owes the card must be the one who holds the object
pub owed_apart : judge_of owed_by_one ≡ 2
unfolding model_open cases_open examples_open
owed_apart = refl

pub owed_together : judge_of owed_and_held ≡ 0
unfolding model_open cases_open examples_open
owed_together = refl

-- where everything is freed, one run is left: the fresh store
pub runs_joined : all_freed ≡ one_card
unfolding model_open cases_open examples_open
runs_joined = refl

-- a run of 8 counts, a run of 7 does not; "fewer" is strict
pub near-eight : dues_near ≡ bytes (ok 0 ∷ ok 1 ∷ ok 0 ∷ [])
unfolding model_open cases_open examples_open
near-eight = refl
