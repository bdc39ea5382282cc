-- A step: the numbers that refuse it, as document 01's table has them, what it does, and lists of steps.
use Rattle.std.proofs.Math.Bool.{Bool, false, not}
use Rattle.std.specs.Prelude.{cond, ◌&&◌, ◌||◌, List, [], ◌∷◌}
use Prim.Native.Nat.{ℕ, zero, suc, ◌+◌, ◌*◌, ◌-◌, ◌/◌}
use Rattle.std.proofs.Math.Dec.{leb, ltb, eqb}
use Rattle.model.specs.Base.{some, first}
use Rattle.model.specs.Image.{Image, links, link, levels, level, reg, owed, scanned, running, dirty, card_count, set_word, set_reg, set_owed, dirty_card, undirty_card}
use Rattle.model.specs.Records.{Step, Kind, new, load, store, barrier, hand_over, drop_reg, read, write, begin, scan, trace, clean, finish, is_due, undirty, unknown, kind_of}
use Rattle.model.specs.Rows.{Phase, any_phase, no_cycle, in_cycle, row_of, is, for_kind, is_unused, is_player, limit, reaches, fields, at_target, rows_open}
use Rattle.model.specs.Mutate.{Placing, room_for, has_room, new_object, usable_granules}
use Rattle.model.specs.Collect.{begin_cycle, scan_player, trace_line, trace_step, clean_line, clean_step}
use Rattle.model.specs.Finish.{Finish, finish_step}

-- what a step leaves: the image, and its answer, "number (0 if accepted) and value"
pub record Done : Type 0 where
  pub image : Image
  pub number : ℕ
  pub value : ℕ

-- ---- the numbers that a record has by itself

-- some of these fields is not 0
unfoldable pub some_set : List ℕ → Bool
some_set [] = false
some_set (x ∷ xs) = not (eqb x 0) || some_set xs

module _ (s : Step) where
  -- 3 unknown: "kind not 1 to 14, or an unnamed field not 0"; document 02, (ii): "kind 15 leaves number 3"; (ix): "3 also if a zero byte isn't 0"
  unfoldable pub unnamed : Kind → Bool
  unfolding row_of is_unused fields
  unnamed n = eqb (row_of n).code 0 || some (not (eqb s.zeros 0) ∷ fields s (λ r x. is_unused r && not (eqb x 0)) (row_of n))

  -- 4 off the desk: "player or register above 15, tracer above 7"; "4 if the card doesn't exist"; k is the number of cards (0 in the plain
  -- store, whose kinds name none)
  unfoldable pub off_desk : ℕ → Kind → Bool
  unfolding row_of limit reaches fields
  off_desk k n = some (fields s (λ r x. reaches (limit k r) x) (row_of n))

  -- 8 bad size: "new with b = 0, b over 1,024, or c over 4 × b − 2"
  unfoldable pub bad_size : Kind → Bool
  unfolding is
  bad_size n = is n new && some (eqb s.b 0 ∷ ltb 1024 s.b ∷ ltb (4 * s.b - 2) s.c ∷ [])

-- ---- what kind 14 says of an image and a

-- document 02, (i), in place of document 01's line on due: "Step 14 gives 1 if the granules in such runs are fewer than a"
unfoldable pub due_value : Image → ℕ → ℕ
due_value m a = cond (ltb (usable_granules m) a) 1 0

-- ---- the numbers that depend on the image

module _ (m : Image) (s : Step) where
  -- what the player's register r holds
  unfoldable pub object : ℕ → ℕ
  object r = reg m s.who r

  unfoldable pub owes : ℕ → Bool
  owes p = not (eqb (owed m p) 0)

  -- 5 owing: "a player owing a barrier in kinds 1 to 3 and 5 to 8, or receiving in 5"
  unfoldable pub owing : Kind → Bool
  unfolding row_of is_player fields
  owing n = (row_of n).unowing && some (fields s (λ r x. is_player r && owes x) (row_of n))

  -- 6 no object: "the object register of kinds 2, 3, 7, 8 is nil"
  unfoldable pub no_object : Kind → Bool
  unfolding row_of at_target
  no_object n = let nil : ℕ → ℕ → Bool = λ r i. eqb (object r) 0 in at_target s nil nil (row_of n).target

  -- 7 past the end: "no such link or level word"
  unfoldable pub past_end : Kind → Bool
  unfolding row_of at_target
  past_end n = at_target s (λ r i. leb (links m (object r)) i) (λ r i. leb (levels m (object r)) i) (row_of n).target

  -- 9 no room: "no b neighbouring granules free"
  unfoldable pub no_room : Kind → Bool
  unfolding is
  no_room n = is n new && not (has_room m s.b)

  -- 10 wrong phase: "begin in a cycle; 10 to 13 outside one"; kind 15 "10 outside a cycle"
  unfoldable pub out_of : Phase → Bool
  out_of any_phase = false
  out_of no_cycle = eqb (running m) 1
  out_of in_cycle = eqb (running m) 0

  unfoldable pub wrong_phase : Kind → Bool
  unfolding row_of out_of
  wrong_phase n = out_of (row_of n).phase

  -- 11 nothing to do: "barrier with none owed; player scanned already; trace or clean where no line applies"; kind 15 "11 if the card isn't
  -- dirty or its count isn't 0"
  unfoldable pub nothing_to_do : Kind → Bool
  unfolding for_kind
  nothing_to_do n =
      for_kind false n
      ((barrier, eqb (owed m s.who) 0)
      ∷ (scan, eqb (scanned m s.a) 1)
      ∷ (trace, eqb (trace_line m s.who) 0)
      ∷ (clean, eqb (clean_line m s.who) 0)
      ∷ (undirty, some (not (dirty m s.a) ∷ not (eqb (card_count m s.a) 0) ∷ []))
      ∷ [])

  -- "The lowest that applies is given.": 3 to 11, or 0
  unfoldable pub refusal : Kind → ℕ
  refusal n =
      first 3
      (unnamed s n
      ∷ off_desk s m.k n
      ∷ owing n
      ∷ no_object n
      ∷ past_end n
      ∷ bad_size s n
      ∷ no_room n
      ∷ wrong_phase n
      ∷ nothing_to_do n
      ∷ [])

-- ---- what an accepted step does

unfoldable pub accept : Image → ℕ → Done
accept i v = record { image = i; number = 0; value = v }

unfoldable pub finish_done : Finish → Done
finish_done f = accept f.image f.value

-- by a rule of placing, and by any rule of kind 14: what due says of an image and a. Only a new goes by the first (`placing_rule` of the theory),
-- and only kind 14 by the second (`due_rule`).
module _ (rule : Placing) (m : Image) (s : Step) where
  module _ (due_by : Image → ℕ → ℕ) where
    unfoldable pub act_by : Kind → Done
    -- "new: register a gets an object of b granules and c links, all else zero, at the start of" the run that the rule takes; "value its granule"
    act_by new = accept (new_object rule m s.who s.a s.b s.c) (room_for rule m s.b).run
    -- "load: register a gets link c of the object in register b; value that link"
    act_by load = let l : ℕ = link m (object m s s.b) s.c in accept (set_reg m s.who s.a l) l
    -- "store: link b of the object in a gets register c, and the player owes the object's card"
    act_by store = let g : ℕ = object m s s.a in accept (set_owed (set_word m g (2 + s.b) (object m s s.c)) s.who (suc (g / 64))) 0
    -- "barrier: the owed card turns dirty and the player owes nothing"
    act_by barrier = accept (set_owed (dirty_card m (owed m s.who - 1)) s.who 0) 0
    -- "hand: player b's register c gets a copy of own register a"
    act_by hand_over = accept (set_reg m s.b s.c (object m s s.a)) 0
    -- "drop: register a becomes nil"
    act_by drop_reg = accept (set_reg m s.who s.a 0) 0
    -- "read: level word b of the object in a"
    act_by read = accept m (level m (object m s s.a) s.b)
    -- "write: c into that word"
    act_by write = let g : ℕ = object m s s.a in accept (set_word m g (2 + links m g + s.b) s.c) 0
    act_by begin = accept (begin_cycle m) 0
    act_by scan = accept (scan_player m s.who s.a) 0
    act_by trace = accept (trace_step m s.who) 0
    act_by clean = accept (clean_step m s.who) 0
    act_by finish = finish_done (finish_step m)
    act_by is_due = accept m (due_by m s.a)
    -- document 02, (ii): "Step 15, undirty, names a card in a [..]; it turns state 1 to 0 and 3 to 2"
    act_by undirty = accept (undirty_card m s.a) 0
    act_by unknown = accept m 0

    -- "the others refuse one step, with value 0": what number r leaves
    unfoldable pub outcome_by : Kind → ℕ → Done
    outcome_by n zero = act_by n
    outcome_by n (suc r) = record { image = m; number = suc r; value = 0 }

    unfoldable pub step_by : Done
    step_by = let n : Kind = kind_of s.kind in outcome_by n (refusal m s n)

  -- ---- the same, with document 02's rule of kind 14

  unfoldable pub act : Kind → Done
  unfolding act_by
  act = act_by due_value

  unfoldable pub outcome : Kind → ℕ → Done
  unfolding outcome_by act
  outcome = outcome_by due_value

  unfoldable pub step : Done
  unfolding step_by outcome
  step = step_by due_value

-- opens the lines of `refusal`
unfoldable pub numbers_open : ℕ
unfolding rows_open some some_set unnamed off_desk bad_size owes owing no_object past_end no_room out_of wrong_phase nothing_to_do refusal
numbers_open = 0

-- ---- lists of steps

-- a record that was run, with the image that it got and what it left
pub record Event : Type 0 where
  pub got : Image
  pub request : Step
  pub done : Done

unfoldable pub run : Placing → Image → List Step → List Event
run rule m [] = []
run rule m (s ∷ ss) = let d : Done = step rule m s in record { got = m; request = s; done = d } ∷ run rule d.image ss

-- the image that a list of steps leaves
unfoldable pub after : Image → List Event → Image
after m [] = m
after m (e ∷ es) = after e.done.image es

-- "Each answer is two words, number and value."
unfoldable pub answers_of : List Event → List ℕ
answers_of [] = []
answers_of (e ∷ es) = e.done.number ∷ e.done.value ∷ answers_of es

-- opens all of these
unfoldable pub steps_open : ℕ
unfolding numbers_open object accept finish_done due_value act outcome step run after answers_of
steps_open = 0
