-- What is said of the worked images and lists of document 02's requests, and of a granule that is used again, by computation.
use mathlib.Core.Path.{◌≡◌, refl, sym, ◌∙◌}
use mathlib.Core.Bool.{true, false}
use Prim.Native.Nat.{◌+◌, ◌*◌}
use mathlib.Core.List.{[], ◌∷◌, ◌++◌}
use lib.ListN.{replicate}
use Rattle.model.specs.Base.{put}
use Rattle.model.specs.Image.{heap_at, parts, fits}
use Rattle.model.specs.Undamaged.{judge_at}
use Rattle.model.specs.Records.{step_of, begin, kind_of}
use Rattle.model.specs.Mutate.{lowest, tightest}
use Rattle.model.specs.Steps.{answers_of}
use Rattle.model.specs.Batch.{judge_of}
use Rattle.model.specs.Map.{map_of}
use Rattle.model.specs.Report.{stretch_record, report_of}
use Rattle.model.specs.Plain.{old, plain_of, feed, plain_run, readings, SameAnswers}
use Rattle.model.specs.Bound.{work_in}
use Rattle.model.specs.BothRules.{shared}
use Rattle.model.specs.Open.{model_open}
use Rattle.model.specs.Cases.{bytes, one_card, answered, ok, refused, cases_open}
use Rattle.model.specs.Examples.{scattered, long_cue, due_before, at, in_gaps, nibbled, wiping, wiping_said, miscounted, shown, shown_sheet, crossing, crossing_sheet, at_begin, at_finish, report_words, report_result, again, again_said, dragging, wide_rec, wide_card, wide_answered, examples_open}

-- many single granules: by document 01's rule 8 are there and nothing is due, by document 02's it is, and a new of 8 is refused for room
pub scattered_before : due_before (parts 16 scattered) 8 ≡ 0
unfolding model_open cases_open examples_open
scattered_before = refl

pub scattered_due : long_cue ≡ bytes (ok 1 ∷ refused 9 ∷ [])
unfolding model_open cases_open examples_open
scattered_due = refl

-- the shortest run that suffices, the lowest of equals, and what is left of it the next time; the lowest that suffices
pub gaps_tightest : in_gaps tightest ≡ bytes (ok 5 ∷ ok 6 ∷ ok 8 ∷ ok 1 ∷ [])
unfolding model_open cases_open examples_open
gaps_tightest = refl

pub gaps_lowest : in_gaps lowest ≡ bytes (ok 1 ∷ ok 2 ∷ ok 3 ∷ ok 11 ∷ [])
unfolding model_open cases_open examples_open
gaps_lowest = refl

-- a new that is refused for room under one rule only, and the answers before it, on either side
pub nibbled_tightest : answers_of (nibbled tightest) ≡ bytes (ok 6 ∷ ok 1 ∷ ok 0 ∷ [])
unfolding model_open cases_open examples_open
nibbled_tightest = refl

pub nibbled_lowest : answers_of (nibbled lowest) ≡ bytes (ok 1 ∷ refused 9 ∷ ok 0 ∷ [])
unfolding model_open cases_open examples_open
nibbled_lowest = refl

pub nibbled_shared : answers_of (shared (nibbled tightest) (nibbled lowest)) ++ answers_of (shared (nibbled lowest) (nibbled tightest)) ≡ bytes (ok 6 ∷ ok 1 ∷ [])
unfolding model_open cases_open examples_open
nibbled_shared = refl

-- every number of undirty; it is accepted while the card is owed, and while it is in hand
pub wiping-said : answered wiping ≡ 0 ∷ bytes wiping_said
unfolding model_open cases_open examples_open
wiping-said = refl

-- one object is marked: a count of 1 is right, no other
pub counts_judged : judge_of (miscounted 0) ∷ judge_of (miscounted 1) ∷ judge_of (miscounted 2) ∷ [] ≡ 2 ∷ 0 ∷ 2 ∷ []
unfolding model_open cases_open examples_open
counts_judged = refl

-- an object of three granules, a marked one and a run on a dirty card; an object that runs over a card's end
pub shown-sheet : map_of shown (replicate 73 7) ≡ record { result = 0; output = shown_sheet }
unfolding model_open cases_open examples_open
shown-sheet = refl

pub crossing-sheet : map_of crossing (replicate 146 7) ≡ record { result = 0; output = crossing_sheet }
unfolding model_open cases_open examples_open
crossing-sheet = refl

-- 3 granules have no room for 11 links; a wrong length goes before damage, and both leave the output as it was
pub damaged_unwritten : map_of (put shown (at heap_at 5) 11) (replicate 73 7) ≡ record { result = 2; output = replicate 73 7 }
unfolding model_open cases_open examples_open
damaged_unwritten = refl

pub misfit_unwritten : map_of (put shown (at heap_at 5) 11) (replicate 74 7) ≡ record { result = 1; output = replicate 74 7 }
unfolding model_open cases_open examples_open
misfit_unwritten = refl

-- D and E in two stretches, and in one: what a finish would free
pub own_stretches : report_words (stretch_record 5 1 ∷ stretch_record 6 3 ∷ []) (replicate 8 7) ≡ record { result = 0; scratch = replicate 8 0 }
unfolding model_open cases_open examples_open
own_stretches = refl

pub own_stretch : report_result (stretch_record 5 4 ∷ []) ≡ 0
unfolding model_open cases_open examples_open
own_stretch = refl

-- overlap; no order; no length; an end and a start inside E; a free granule; granule 0; behind the store; past 65,535
pub bad-stretches :
    report_result (stretch_record 5 1 ∷ stretch_record 5 4 ∷ [])
    ∷ report_result (stretch_record 6 3 ∷ stretch_record 5 1 ∷ [])
    ∷ report_result (stretch_record 5 0 ∷ [])
    ∷ report_result (stretch_record 5 2 ∷ [])
    ∷ report_result (stretch_record 7 2 ∷ [])
    ∷ report_result (stretch_record 5 5 ∷ [])
    ∷ report_result (stretch_record 0 3 ∷ [])
    ∷ report_result (stretch_record 64 1 ∷ [])
    ∷ report_result (stretch_record 5 4 ∷ stretch_record 9 65532 ∷ [])
    ∷ []
    ≡ replicate 9 12
unfolding model_open cases_open examples_open
bad-stretches = refl

-- C, which only a chain of two links reaches, is freed; E is missed, so are both; the lowest number is given
pub held-or-missed :
    report_result (stretch_record 4 5 ∷ [])
    ∷ report_result (stretch_record 5 1 ∷ [])
    ∷ report_result []
    ∷ report_result (stretch_record 4 1 ∷ [])
    ∷ report_result (stretch_record 4 1 ∷ stretch_record 7 2 ∷ [])
    ∷ []
    ≡ 13 ∷ 14 ∷ 14 ∷ 13 ∷ 12 ∷ []
unfolding model_open cases_open examples_open
held-or-missed = refl

-- a part of a record, and a scratch of 64 words, go before damage, and neither they nor damage touch the scratch
pub report-refused :
    report_of (put at_begin (at heap_at 5) 7) at_finish (stretch_record 5 4) (replicate 8 7)
    ∷ report_of at_begin (put at_finish (at heap_at 5) 7) (stretch_record 5 4) (replicate 8 7)
    ∷ report_of (put at_begin (at heap_at 5) 7) at_finish (5 ∷ 0 ∷ 4 ∷ []) (replicate 8 7)
    ∷ report_of (put at_begin (at heap_at 5) 7) at_finish (stretch_record 5 4) (replicate 64 7)
    ∷ []
    ≡ record { result = 2; scratch = replicate 8 7 }
    ∷ record { result = 2; scratch = replicate 8 7 }
    ∷ record { result = 1; scratch = replicate 8 7 }
    ∷ record { result = 1; scratch = replicate 64 7 }
    ∷ []
unfolding model_open cases_open examples_open
report-refused = refl

-- a granule that is used again is another object: the real answers, read, and the plain store's
pub again_read : readings old 0 again ≡ again_said
unfolding model_open cases_open examples_open
again_read = refl

pub again_plain : plain_run (plain_of (parts 16 one_card)) (feed 0 again) ≡ again_said
unfolding model_open cases_open examples_open
again_plain = refl

pub again_same : SameAnswers (parts 16 one_card) again
unfolding SameAnswers
again_same = again_read ∙ sym again_plain

-- two links: of five traces and six cleans the last are refused; four traces and five cleans count, 2 for the card, 3 for the object and 2 for each link
pub dragged_two : work_in (dragging 1 2 5 6) ≡ 9
unfolding model_open cases_open examples_open
dragged_two = refl

-- "so that the length is 262 × k + 1384 words": 1,646 fit, 1,645 do not; k is at most 65,536
pub wide_lengths : judge_at 32 (replicate 1645 0) ∷ judge_at 32 wide_card ∷ [] ≡ 1 ∷ 0 ∷ []
unfolding model_open cases_open examples_open
wide_lengths = refl

pub wide_most : (fits 32 (262 * 65536 + 1384) ≡ true) × (fits 32 (262 * 65537 + 1384) ≡ false)
unfolding model_open
wide_most = (refl, refl)

-- "3 also if a zero byte isn't 0"; fields are compared as 32 bits, and level words have as many
pub wide_said : wide_answered (wide_rec 9 0 1 0 0 0 ∷ wide_rec 9 0 256 0 0 0 ∷ wide_rec 1 0 0 65536 1 0 ∷ wide_rec 1 0 0 0 65537 0 ∷ wide_rec 1 0 0 0 1 0 ∷ wide_rec 8 0 0 0 1 4294967295 ∷ wide_rec 7 0 0 0 1 0 ∷ wide_rec 7 0 0 0 65537 0 ∷ [])
    ≡ bytes (refused 3 ∷ refused 3 ∷ refused 4 ∷ refused 8 ∷ ok 1 ∷ ok 0 ∷ ok 4294967295 ∷ refused 7 ∷ [])
unfolding model_open cases_open examples_open
wide_said = refl

-- a begin with such a byte is a begin
pub wide_begin : kind_of (step_of 32 (wide_rec 9 0 1 0 0 0)).kind ≡ begin
unfolding model_open examples_open
wide_begin = refl
