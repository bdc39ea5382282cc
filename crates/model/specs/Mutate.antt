-- What the steps of players do that is more than one word: new, with the run that it is placed in. The granules of the runs, for due.
use Rattle.std.specs.Prelude.{Bool, true, false, cond, ◌&&◌, ◌||◌, ℕ, zero, suc, ◌+◌, ◌-◌, leb, ltb, eqb}
use Rattle.model.specs.Image.{Image, granules, word, first_run, set_word, set_start, set_reg, set_first_run}

-- a run, and the run before it in the chain; 0: there is none
pub record Room : Type 0 where
  pub run : ℕ
  pub before : ℕ

-- The rule by which a new takes one of the runs that suffice: document 01's "lowest run that suffices", or document 02's, (v), "shortest run that
-- suffices, the lowest of equals". No refusal and no other kind goes by it.
pub data Placing : Type 0 where
  lowest tightest : Placing

-- by the rule, a run of n granules is taken rather than a lower one of l
unfoldable pub better : Placing → ℕ → ℕ → Bool
better lowest n l = false
better tightest n l = ltb n l

module _ (rule : Placing) (m : Image) (b : ℕ) where
  -- run g suffices for b granules, and there is no run so far, or g is better
  unfoldable pub takes : Room → ℕ → Bool
  takes best g = leb b (word m g 0) && (eqb best.run 0 || better rule (word m g 0) (word m best.run 0))

  -- the run that is taken of `best`, the one so far, and those from run g on, which follows run `before`; n runs at most are asked
  unfoldable pub choose : ℕ → Room → ℕ → ℕ → Room
  choose zero best before g = best
  choose (suc n) best before zero = best
  choose (suc n) best before (suc g) =
      elim (takes best (suc g)) [
        | true ↦ choose n (record { run = suc g; before = before }) (suc g) (word m (suc g) 1)
        | false ↦ choose n best (suc g) (word m (suc g) 1)
      ]

  unfoldable pub room_for : Room
  room_for = choose (granules m) (record { run = 0; before = 0 }) 0 (first_run m)

-- some run from run g on has b granules or more; n runs at most are asked
unfoldable pub some_run : Image → ℕ → ℕ → ℕ → Bool
some_run m b zero g = false
some_run m b (suc n) zero = false
some_run m b (suc n) (suc g) = leb b (word m (suc g) 0) || some_run m b n (word m (suc g) 1)

-- "b neighbouring granules free", whatever the rule
unfoldable pub has_room : Image → ℕ → Bool
has_room m b = some_run m b (granules m) (first_run m)

-- the run after run `before`, or the first one, becomes g
unfoldable pub set_next : Image → ℕ → ℕ → Image
set_next m zero g = set_first_run m g
set_next m (suc before) g = set_word m (suc before) 1 g

-- run g shrinks by its first b granules, or goes; `before` is the run before it, `left` what is left of it
unfoldable pub take_run : Image → ℕ → ℕ → ℕ → ℕ → Image
take_run m g before b zero = set_next m before (word m g 1)
take_run m g before b (suc left) = set_next (set_word (set_word m (g + b) 0 (suc left)) (g + b) 1 (word m g 1)) before (g + b)

-- "register a gets an object of b granules and c links, all else zero, at the start of" the run that the rule takes
unfoldable pub new_object : Placing → Image → ℕ → ℕ → ℕ → ℕ → Image
new_object rule m p r b c =
    let f : Room = room_for rule m b in
    let g : ℕ = f.run in
    set_reg (set_start (set_word (set_word (take_run m g f.before b (word m g 0 - b)) g 0 b) g 1 c) g) p r g

-- ---- the granules of the runs

-- the sum of v over the lengths of the runs from run g on, of n runs at most
unfoldable pub sum_runs : (ℕ → ℕ) → Image → ℕ → ℕ → ℕ
sum_runs v m zero g = 0
sum_runs v m (suc n) zero = 0
sum_runs v m (suc n) (suc g) = v (word m (suc g) 0) + sum_runs v m n (word m (suc g) 1)

-- every granule of these runs
unfoldable pub free_from : Image → ℕ → ℕ → ℕ
unfolding sum_runs
free_from = sum_runs (λ n. n)

unfoldable pub free_granules : Image → ℕ
free_granules m = free_from m (granules m) (first_run m)

-- what a run of n granules counts, where only runs of `least` or more do
unfoldable pub if_long : ℕ → ℕ → ℕ
if_long least n = cond (leb least n) n 0

-- the granules in such runs
unfoldable pub granules_in_runs : ℕ → Image → ℕ
granules_in_runs least m = sum_runs (if_long least) m (granules m) (first_run m)

-- document 02, (i): "only runs of 8 granules or more count"
unfoldable pub usable_run : ℕ
usable_run = 8

-- "the granules in such runs"
unfoldable pub usable_granules : Image → ℕ
usable_granules = granules_in_runs usable_run

-- opens all of these
unfoldable pub mutate_open : ℕ
unfolding better takes choose room_for some_run has_room set_next take_run new_object sum_runs free_from free_granules if_long granules_in_runs usable_run usable_granules
mutate_open = 0
