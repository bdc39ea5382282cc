-- Worked images and lists that the starred cases do not reach: a finish on an image without Cover, Cover and its two players, runs joined, runs
-- too short to be usable, news by either rule, cards wiped, maps, reports; a history with the plain store beside it, long cycles; a wide store.
use Rattle.std.specs.Prelude.{cond, List, [], ◌∷◌, ◌++◌, ℕ, zero, suc, ◌+◌, ◌*◌, ◌/◌, ◌%◌, ltb, length, replicate}
use Rattle.model.specs.Base.{put, table}
use Rattle.model.specs.Image.{Image, heap_at, counts_at, regs_at, players_at, lengths, image_length, place}
use Rattle.model.specs.Undamaged.{fresh_at}
use Rattle.model.specs.Mutate.{Placing, tightest, free_granules}
use Rattle.model.specs.Batch.{Batch, fresh_of, batch_at, batch_of}
use Rattle.model.specs.Report.{Reported, report_of}
use Rattle.model.specs.Steps.{Event}
use Rattle.model.specs.Plain.{made, as_object, as_is, Reply}
use Rattle.model.specs.Claim.{history}
use Rattle.model.specs.Cases.{rec, bytes, one_card, ok, refused}

-- the place of word i of section s, in a store of one card
unfoldable pub at : ℕ → ℕ → ℕ
at s i = place (lengths 16 1) s + i

-- the words that some steps leave of a fresh store of one card
unfoldable pub left : List (List ℕ) → List ℕ
left rs = let r : Batch = batch_of one_card (bytes rs) (replicate (2 * length rs) 0) in r.image

-- O = 1 with two links in player 0's r0, A = 2 in player 1's r0; begin, scan player 0, trace three times: O is in hand at link 1
unfoldable pub in_hand : List ℕ
in_hand = left (rec 1 0 0 1 2 ∷ rec 1 1 0 1 0 ∷ rec 9 0 0 0 0 ∷ rec 10 0 0 0 0 ∷ rec 11 0 0 0 0 ∷ rec 11 0 0 0 0 ∷ rec 11 0 0 0 0 ∷ [])

-- the same with link 0 of O set to A and no register holding A: undamaged but for Cover
unfoldable pub link_behind : List ℕ
link_behind = put (put in_hand (at heap_at 6) 2) (at regs_at 16) 0

-- O = 1 with one link in player 0's r0, A = 2 in player 1's r0; begin, scan player 0, trace three times: O is done
unfoldable pub traced : List ℕ
traced = left (rec 1 0 0 1 1 ∷ rec 1 1 0 1 0 ∷ rec 9 0 0 0 0 ∷ rec 10 0 0 0 0 ∷ rec 11 0 0 0 0 ∷ rec 11 0 0 0 0 ∷ rec 11 0 0 0 0 ∷ [])

-- O links to A; player 0 owes O's card and player 1 holds A
unfoldable pub owed_by_one : List ℕ
owed_by_one = put (put traced (at heap_at 6) 2) (at players_at 0) 1

-- and player 0 holds A too
unfoldable pub owed_and_held : List ℕ
owed_and_held = put owed_by_one (at regs_at 1) 2

-- three objects of one granule, dropped; begin, finish
unfoldable pub all_freed : List ℕ
all_freed = left (rec 1 0 0 1 0 ∷ rec 1 0 1 1 0 ∷ rec 1 0 2 1 0 ∷ rec 6 0 0 0 0 ∷ rec 6 0 1 0 0 ∷ rec 6 0 2 0 0 ∷ rec 9 0 0 0 0 ∷ rec 13 0 0 0 0 ∷ [])

-- n objects of one granule in player 0's registers and as many of three in player 1's, one behind the other by turns
unfoldable pub by_turns : ℕ → List (List ℕ)
by_turns zero = []
by_turns (suc n) = by_turns n ++ (rec 1 0 n 1 0 ∷ rec 1 1 n 3 0 ∷ [])

-- 15 of each, those of one granule dropped; begin, finish: 15 runs of one granule, and one of three behind them
unfoldable pub scattered : List ℕ
scattered = left (by_turns 15 ++ (table 15 (λ r. rec 6 0 r 0 0) ++ (rec 9 0 0 0 0 ∷ rec 13 0 0 0 0 ∷ [])))

-- on it, a due that asks for 8 granules, and a new of 8
unfoldable pub long_cue : List ℕ
long_cue = let r : Batch = batch_of scattered (bytes (rec 14 0 8 0 0 ∷ rec 1 0 0 8 0 ∷ [])) (replicate 4 0) in r.answers

-- objects of 7, 1, 8 and 47 granules, those of 7 and of 8 dropped; begin, finish: runs of 7 and of 8, and no more room
unfoldable pub near_eight : List ℕ
near_eight = left (rec 1 0 0 7 0 ∷ rec 1 0 1 1 0 ∷ rec 1 0 2 8 0 ∷ rec 1 0 3 47 0 ∷ rec 6 0 0 0 0 ∷ rec 6 0 2 0 0 ∷ rec 9 0 0 0 0 ∷ rec 13 0 0 0 0 ∷ [])

-- on it, dues that ask for 8 granules, for 9 and for none
unfoldable pub dues_near : List ℕ
dues_near = let r : Batch = batch_of near_eight (bytes (rec 14 0 8 0 0 ∷ rec 14 0 9 0 0 ∷ rec 14 0 0 0 0 ∷ [])) (replicate 6 0) in r.answers

-- runs of 3 granules at 1, of 2 at 5 and at 8, and the rest at 11; then news of 1, 1, 1 and 3 granules, by either rule
unfoldable pub gaps : List ℕ
gaps =
    left
    (rec 1 0 0 3 0 ∷ rec 1 1 0 1 0 ∷ rec 1 0 1 2 0 ∷ rec 1 1 1 1 0 ∷ rec 1 0 2 2 0 ∷ rec 1 1 2 1 0
    ∷ rec 6 0 0 0 0 ∷ rec 6 0 1 0 0 ∷ rec 6 0 2 0 0 ∷ rec 9 0 0 0 0 ∷ rec 13 0 0 0 0 ∷ [])

unfoldable pub in_gaps : Placing → List ℕ
in_gaps rule = let r : Batch = batch_at rule 16 gaps (bytes (rec 1 0 0 1 0 ∷ rec 1 0 1 1 0 ∷ rec 1 0 2 1 0 ∷ rec 1 0 3 3 0 ∷ [])) (replicate 8 0) in r.answers

-- "Long runs get nibbled by small palettes": runs of 4 granules at 1 and of 2 at 6, and no more room; then news of 2 and of 4, and a drop
unfoldable pub four_and_two : List ℕ
four_and_two = left (rec 1 0 0 4 0 ∷ rec 1 0 1 1 0 ∷ rec 1 0 2 2 0 ∷ rec 1 0 3 56 0 ∷ rec 6 0 0 0 0 ∷ rec 6 0 2 0 0 ∷ rec 9 0 0 0 0 ∷ rec 13 0 0 0 0 ∷ [])

unfoldable pub nibbled : Placing → List Event
nibbled rule = history rule 16 four_and_two (record { steps = bytes (rec 1 0 4 2 0 ∷ rec 1 0 5 4 0 ∷ rec 6 0 4 0 0 ∷ []); answers = replicate 6 0 } ∷ [])

-- Undirty of card 0, with O = 1 in player 0's r0: outside a cycle, of no card, with a second byte; in a cycle after a barrier while the player owes
-- the card again, once more, after that barrier and a clean with the card in hand, once more, and when O is marked.
unfoldable pub wiping : List (List ℕ)
wiping =
    rec 1 0 0 1 1 ∷ rec 15 0 0 0 0 ∷ rec 15 0 1 0 0 ∷ rec 15 1 1 0 0 ∷ rec 9 0 0 0 0
    ∷ rec 3 0 0 0 0 ∷ rec 4 0 0 0 0 ∷ rec 3 0 0 0 0 ∷ rec 15 0 0 0 0 ∷ rec 15 0 0 0 0
    ∷ rec 4 0 0 0 0 ∷ rec 12 0 0 0 0 ∷ rec 3 0 0 0 0 ∷ rec 4 0 0 0 0 ∷ rec 15 0 0 0 0 ∷ rec 15 0 0 0 0
    ∷ rec 10 0 0 0 0 ∷ rec 3 0 0 0 0 ∷ rec 4 0 0 0 0 ∷ rec 15 0 0 0 0 ∷ []

unfoldable pub wiping_said : List (List ℕ)
wiping_said =
    ok 1 ∷ refused 10 ∷ refused 4 ∷ refused 3 ∷ ok 0
    ∷ ok 0 ∷ ok 0 ∷ ok 0 ∷ ok 0 ∷ refused 11
    ∷ ok 0 ∷ ok 0 ∷ ok 0 ∷ ok 0 ∷ ok 0 ∷ refused 11
    ∷ ok 0 ∷ ok 0 ∷ ok 0 ∷ refused 11 ∷ []

-- the image of O in hand, which alone is marked, with n as the count of its card
unfoldable pub miscounted : ℕ → List ℕ
miscounted n = put in_hand (at counts_at 0) n

-- Granules 1 to 3 for player 0, granule 4 for player 1, the rest a run; begin, player 1 is scanned, player 0 stores and pays its barrier.
unfoldable pub shown : List ℕ
shown = left (rec 1 0 0 3 1 ∷ rec 1 1 0 1 0 ∷ rec 9 0 0 0 0 ∷ rec 10 0 1 0 0 ∷ rec 3 0 0 0 0 ∷ rec 4 0 0 0 0 ∷ [])

-- its line: 0000 1 .o--#.. and so on
unfoldable pub shown_sheet : List ℕ
shown_sheet = (48 ∷ 48 ∷ 48 ∷ 48 ∷ 32 ∷ 49 ∷ 32 ∷ 46 ∷ 111 ∷ 45 ∷ 45 ∷ 35 ∷ []) ++ (replicate 59 46 ++ (32 ∷ 10 ∷ []))

-- two cards; an object of 62 granules, and one of 5 at granule 63, which runs over the end of card 0
unfoldable pub crossing : List ℕ
crossing =
    let fresh : List ℕ = (fresh_of (replicate (image_length 16 2) 7)).image in
    let r : Batch = batch_of fresh (bytes (rec 1 0 0 62 0 ∷ rec 1 0 1 5 0 ∷ [])) (replicate 4 0) in r.image

-- its lines: 0000 0 .o- .. -o and 0001 0 ----. ..
unfoldable pub crossing_sheet : List ℕ
crossing_sheet =
    (48 ∷ 48 ∷ 48 ∷ 48 ∷ 32 ∷ 48 ∷ 32 ∷ 46 ∷ 111 ∷ []) ++ (replicate 61 45 ++ (111 ∷ 32 ∷ 10 ∷ []))
    ++ (48 ∷ 48 ∷ 48 ∷ 49 ∷ 32 ∷ 48 ∷ 32 ∷ []) ++ (replicate 4 45 ++ (replicate 60 46 ++ (32 ∷ 10 ∷ [])))

-- A = 1 of two granules in player 0's r0 links to B = 3, and B to C = 4; no register holds D = 5, nor E = 6 of three granules; then a begin
unfoldable pub two_lost : List (List ℕ)
two_lost =
    rec 1 0 0 2 1 ∷ rec 1 0 1 1 1 ∷ rec 1 0 2 1 0 ∷ rec 3 0 0 0 1 ∷ rec 4 0 0 0 0 ∷ rec 3 0 1 0 2 ∷ rec 4 0 0 0 0
    ∷ rec 1 0 1 1 0 ∷ rec 1 0 2 3 0 ∷ rec 6 0 1 0 0 ∷ rec 6 0 2 0 0 ∷ []

unfoldable pub at_begin : List ℕ
at_begin = left two_lost

unfoldable pub at_finish : List ℕ
at_finish = left (two_lost ++ (rec 9 0 0 0 0 ∷ []))

-- a report with these stretches, and the result that it gets
unfoldable pub report_words : List (List ℕ) → List ℕ → Reported
report_words stretches scratch = report_of at_begin at_finish (bytes stretches) scratch

unfoldable pub report_result : List (List ℕ) → ℕ
report_result stretches = (report_words stretches (replicate 8 7)).result

-- what document 01's rule says of an image and a: "value 1 if fewer than a granules are free, else 0"
unfoldable pub due_before : Image → ℕ → ℕ
due_before m a = cond (ltb (free_granules m) a) 1 0

-- an object made at granule 1, written, read, dropped and freed; then another at granule 1, whose level words are zero
unfoldable pub again : List Event
again = history tightest 16 one_card (record { steps = bytes (rec 1 0 0 1 0 ∷ rec 8 0 0 1 7 ∷ rec 7 0 0 1 0 ∷ rec 6 0 0 0 0 ∷ rec 9 0 0 0 0 ∷ []); answers = replicate 10 0 } ∷ record { steps = bytes (rec 13 0 0 0 0 ∷ rec 1 0 3 1 0 ∷ rec 7 0 3 1 0 ∷ rec 7 0 0 0 0 ∷ []); answers = replicate 8 0 } ∷ [])

-- what the players are answered in it
unfoldable pub again_said : List Reply
again_said =
    record { number = 0; value = as_object (made 0) }
    ∷ record { number = 0; value = as_is 0 }
    ∷ record { number = 0; value = as_is 7 }
    ∷ record { number = 0; value = as_is 0 }
    ∷ record { number = 0; value = as_object (made 6) }
    ∷ record { number = 0; value = as_is 0 }
    ∷ record { number = 6; value = as_is 0 }
    ∷ []

-- An object of b granules and c links, the only one of the store: begin, scan, t traces; nil is stored in it, and the barrier paid; u cleans.
unfoldable pub dragging : ℕ → ℕ → ℕ → ℕ → List Event
dragging b c t u =
    let rs : List (List ℕ) = (rec 1 0 0 b c ∷ rec 9 0 0 0 0 ∷ rec 10 0 0 0 0 ∷ []) ++ (table t (λ i. rec 11 0 0 0 0) ++ ((rec 3 0 0 0 1 ∷ rec 4 0 0 0 0 ∷ []) ++ table u (λ i. rec 12 0 0 0 0))) in
    history tightest 16 one_card (record { steps = bytes rs; answers = replicate (2 * length rs) 0 } ∷ [])

-- ---- document 02, (ix): a wide store

-- a number of 32 bits, and a record: kind, player or tracer, the zero bytes, a, b, c
unfoldable pub quad : ℕ → List ℕ
quad x = x % 256 ∷ x / 256 % 256 ∷ x / 65536 % 256 ∷ x / 16777216 ∷ []

unfoldable pub wide_rec : ℕ → ℕ → ℕ → ℕ → ℕ → ℕ → List ℕ
wide_rec kind who zeros a b c = kind ∷ who ∷ zeros % 256 ∷ zeros / 256 ∷ (quad a ++ (quad b ++ quad c))

-- a fresh one of one card, and the answers of a batch on it
unfoldable pub wide_card : List ℕ
wide_card = (fresh_at 32 (replicate 1646 7)).image

unfoldable pub wide_answered : List (List ℕ) → List ℕ
wide_answered rs = (batch_at tightest 32 wide_card (bytes rs) (replicate (2 * length rs) 7)).answers

-- opens all of these
unfoldable pub examples_open : ℕ
unfolding at left in_hand link_behind traced owed_by_one owed_and_held all_freed by_turns scattered long_cue near_eight dues_near gaps in_gaps four_and_two nibbled wiping wiping_said miscounted shown shown_sheet crossing crossing_sheet two_lost at_begin at_finish report_words report_result due_before again again_said dragging quad wide_rec wide_card wide_answered
examples_open = 0
