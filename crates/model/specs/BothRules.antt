-- Request (v) of document 02 on two rules of placing, as one statement about a first image and a list of batches.
use Rattle.std.specs.Prelude.{◌≡◌, Bool, not, cond, List, [], ◌∷◌, ℕ, suc}
use Rattle.model.specs.Base.{either}
use Rattle.model.specs.Records.{Step, kind_of}
use Rattle.model.specs.Mutate.{Placing}
use Rattle.model.specs.Steps.{Event}
use Rattle.model.specs.Plain.{Object, old, Reply, by_player, for_room, named, reading}
use Rattle.model.specs.Claim.{Lent, history, results}

-- the records of events
unfoldable pub requests : List Event → List Step
requests [] = []
requests (e ∷ es) = e.request ∷ requests es

-- "a new refused for room"
unfoldable pub refused_for_room : Event → Bool
refused_for_room e = for_room (kind_of e.request.kind) e.done.number

-- both are, or neither is
unfoldable pub room_alike : Event → Event → Bool
room_alike d e = either (refused_for_room d) (refused_for_room e) (not (refused_for_room e))

-- "up to the first new refused for room under one rule only": the events of the first list before it, where the second has those of the same
-- records under another rule
unfoldable pub shared : List Event → List Event → List Event
shared [] es = []
shared (d ∷ ds) [] = []
shared (d ∷ ds) (e ∷ es) = let r = shared ds es in cond (room_alike d e) (d ∷ r) []

-- the answers of "kinds 1 to 8", "read as in demand 3": by the list's own news. Those refused for room are among them.
unfoldable pub players_answers : (ℕ → Object) → ℕ → List Event → List Reply
players_answers name i [] = []
players_answers name i (e ∷ es) =
    let f : ℕ → Object = named name i e in
    let r = players_answers f (suc i) es in
    cond (by_player (kind_of e.request.kind)) (reading f e ∷ r) r

-- "for the same list on the same image, kinds 1 to 8 get the same answers under both rules, read as in demand 3, up to the first new refused
-- for room under one rule only"
pub record BothRules (rule other : Placing) (w : ℕ) (ws : List ℕ) (bs : List Lent) : Type 0 where
  pub same_results : results rule w ws bs ≡ results other w ws bs
  pub same_requests : requests (history rule w ws bs) ≡ requests (history other w ws bs)
  pub same_answers : players_answers old 0 (shared (history rule w ws bs) (history other w ws bs))
      ≡ players_answers old 0 (shared (history other w ws bs) (history rule w ws bs))

-- opens what of these computes
unfoldable pub both_rules_open : ℕ
unfolding requests refused_for_room room_alike shared players_answers
both_rules_open = 0
