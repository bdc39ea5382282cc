-- Demand 3 of docs/DEMANDS.md as one statement about a first image and a list of batches, under a rule of placing.
use Rattle.std.specs.Prelude.{◌≡◌, Bool, true, false, cond, ℕ, zero, suc, ◌*◌, ◌<◌, eqb}
use mathlib.Core.List.{List, [], ◌∷◌, ◌++◌, Memᴰ}
use Rattle.model.specs.Image.{Image, word, is_start, size, links, link, reg, running, parts, words}
use Rattle.model.specs.Undamaged.{judge_at}
use Rattle.model.specs.Records.{Step, Kind, begin, finish, kind_of}
use Rattle.model.specs.Mutate.{Placing}
use Rattle.model.specs.Finish.{Kept}
use Rattle.model.specs.Steps.{Event, some_set}
use Rattle.model.specs.Batch.{Batch, events, batch_at}
use Rattle.model.specs.Plain.{SameAnswers}

-- ---- the history

-- a batch as it is lent: step bytes and answer words
pub record Lent : Type 0 where
  pub steps : List ℕ
  pub answers : List ℕ

-- the events of an accepted batch; "a refused one adds no step"
unfoldable pub events_of : Placing → ℕ → List ℕ → Lent → ℕ → List Event
events_of rule w ws b zero = events rule w ws b.steps
events_of rule w ws b (suc r) = []

-- "Its records are of any kind, unknown ones too, in one batch or several; each batch gets the image that the last left"
unfoldable pub history : Placing → ℕ → List ℕ → List Lent → List Event
history rule w ws [] = []
history rule w ws (b ∷ bs) =
    let r : Batch = batch_at rule w ws b.steps b.answers in
    events_of rule w ws b r.result ++ history rule w r.image bs

-- the results of the batches
unfoldable pub results : Placing → ℕ → List ℕ → List Lent → List ℕ
results rule w ws [] = []
results rule w ws (b ∷ bs) =
    let r : Batch = batch_at rule w ws b.steps b.answers in
    r.result ∷ results rule w r.image bs

-- ---- words of the claim

-- "A chain from a register reaches what it holds and what any object so reached links to"
pub data Chain (m : Image) : ℕ → Type 0 where
  chain_reg : {a : ℕ} (p r : ℕ) → p < 16 → r < 16 → reg m p r ≡ a → (a ≡ 0 → ⊥) → Chain m a
  chain_link : {a : ℕ} (g i : ℕ) → Chain m g → i < links m g → link m g i ≡ a → (a ≡ 0 → ⊥) → Chain m a

-- an event's kind, and that it was accepted
abbrev pub Is : Kind → Event → Type 0
Is n e = kind_of e.request.kind ≡ n

pub record Accepted (n : Kind) (e : Event) : Type 0 where
  pub is_kind : Is n e
  pub no_number : e.done.number ≡ 0

-- the record has a field, the second byte and the zero bytes among them, that is not 0
unfoldable pub any_field : Step → Bool
any_field s = some_set (s.zeros ∷ s.who ∷ s.a ∷ s.b ∷ s.c ∷ [])

-- the object at g is in both images, with the same size, links and level words
pub record Same (m n : Image) (g : ℕ) : Type 0 where
  pub stays : is_start n g ≡ true
  pub same_words : (i : ℕ) → i < 4 * size m g → word n g i ≡ word m g i

-- what an accepted finish does
pub record Finishes (m n : Image) : Type 0 where
  -- it keeps exactly the objects that are marked or found by its rule in the image it got, as they are
  pub kept_stay : (g : ℕ) → is_start m g ≡ true → Kept m g → Same m n g
  pub only_kept : (g : ℕ) → is_start n g ≡ true → (is_start m g ≡ true) × Kept m g
  -- "finish frees nothing that a chain of links from a register reaches"
  pub reached_stay : (g : ℕ) → Chain m g → Same m n g

-- opens what of these computes
unfoldable pub claim_open : ℕ
unfolding events_of history results any_field
claim_open = 0

-- ---- the claim

pub record Claim (rule : Placing) (w : ℕ) (ws : List ℕ) (bs : List Lent) : Type 0 where
  -- demand 3a: every image of the history is undamaged, and no batch answers 2
  pub all_undamaged : (e : Event) → Memᴰ e (history rule w ws bs) → (judge_at w (words e.got) ≡ 0) × (judge_at w (words e.done.image) ≡ 0)
  pub none_damaged : (r : ℕ) → Memᴰ r (results rule w ws bs) → r ≡ 2 → ⊥
  -- demand 3b: a begin's number is 3 if an unnamed field is not 0, else 10 if a cycle runs, else 0; a finish's is 3, else 10 if none runs, else 0
  pub begin_number : (e : Event) → Memᴰ e (history rule w ws bs) → Is begin e
      → e.done.number ≡ cond (any_field e.request) 3 (cond (eqb (running e.got) 1) 10 0)
  pub finish_number : (e : Event) → Memᴰ e (history rule w ws bs) → Is finish e
      → e.done.number ≡ cond (any_field e.request) 3 (cond (eqb (running e.got) 0) 10 0)
  -- demand 3c: what every accepted finish keeps
  pub finishes : (e : Event) → Memᴰ e (history rule w ws bs) → Accepted finish e → Finishes e.got e.done.image
  -- demand 3d: "the next finish after a begin frees all that nothing reached at that begin": it was there to be freed, and is gone
  pub frees_unreached : (b f : Event) (before mid behind : List Event) → history rule w ws bs ≡ before ++ (b ∷ (mid ++ (f ∷ behind)))
      → Accepted begin b → ((e : Event) → Memᴰ e mid → Accepted finish e → ⊥) → Accepted finish f
      → (g : ℕ) → is_start b.got g ≡ true → (Chain b.got g → ⊥)
      → (is_start f.got g ≡ true) × (is_start f.done.image g ≡ false)
  -- demand 3e: "the players' answers are exactly those of a plain store that never frees"
  pub plain_answers : SameAnswers (parts w ws) (history rule w ws bs)
