-- The plain store, which never frees: its state, its step, and how the real answers are read against its own.
use Rattle.std.specs.Prelude.{◌≡◌, true, false, cond, ◌&&◌, ◌||◌, List, [], ◌∷◌, eqb}
use Rattle.std.proofs.Math.Bool.{Bool, not}
use Prim.Native.Nat.{ℕ, zero, suc, ◌*◌, ◌-◌}
use Rattle.std.proofs.Math.Dec.{leb}
use Rattle.model.specs.Base.{some, first}
use Rattle.model.specs.Image.{Image, size, links, link, level, reg, owed}
use Rattle.model.specs.Records.{Step, Kind, new, load, store, barrier, hand_over, drop_reg, read, write, kind_of}
use Rattle.model.specs.Rows.{row_of, is, for_kind, is_player, fields, at_target}
use Rattle.model.specs.Steps.{Event, unnamed, off_desk, bad_size}

-- ---- the state

-- "An object of the image is known by its granule there, any other by its new's place in the list." Nil is `old 0`.
pub data Object : Type 0 where
  old : ℕ → Object
  made : ℕ → Object

unfoldable pub same_object : Object → Object → Bool
same_object (old g) (old h) = eqb g h
same_object (old g) (made j) = false
same_object (made i) (old h) = false
same_object (made i) (made j) = eqb i j

unfoldable pub is_nil : Object → Bool
is_nil o = same_object o (old 0)

-- "It has the objects (size, links, level words), registers and, per player, whether a barrier is owed"
pub record PlainStore : Type 0 where
  pub size_of : Object → ℕ
  pub link_count : Object → ℕ
  pub link_of : Object → ℕ → Object
  pub level_of : Object → ℕ → ℕ
  pub register : ℕ → ℕ → Object
  pub owing : ℕ → Bool

-- one value of a function replaced
unfoldable pub upd : {A : Type 0} → (ℕ → A) → ℕ → A → ℕ → A
upd f i v j = cond (eqb j i) v (f j)

unfoldable pub upd_object : {A : Type 0} → (Object → A) → Object → A → Object → A
upd_object f o v x = cond (same_object x o) v (f x)

module _ (q : PlainStore) where
  unfoldable pub put_reg : ℕ → ℕ → Object → PlainStore
  put_reg p r v = record { size_of = q.size_of; link_count = q.link_count; link_of = q.link_of; level_of = q.level_of; register = upd q.register p (upd (q.register p) r v); owing = q.owing }

  unfoldable pub put_link : Object → ℕ → Object → PlainStore
  put_link o i v = record { size_of = q.size_of; link_count = q.link_count; link_of = upd_object q.link_of o (upd (q.link_of o) i v); level_of = q.level_of; register = q.register; owing = q.owing }

  unfoldable pub put_level : Object → ℕ → ℕ → PlainStore
  put_level o i v = record { size_of = q.size_of; link_count = q.link_count; link_of = q.link_of; level_of = upd_object q.level_of o (upd (q.level_of o) i v); register = q.register; owing = q.owing }

  unfoldable pub put_owing : ℕ → Bool → PlainStore
  put_owing p t = record { size_of = q.size_of; link_count = q.link_count; link_of = q.link_of; level_of = q.level_of; register = q.register; owing = upd q.owing p t }

  -- "one more object of b granules and c links, all nil and zero"
  unfoldable pub put_object : Object → ℕ → ℕ → PlainStore
  put_object o b c = record { size_of = upd_object q.size_of o b; link_count = upd_object q.link_count o c; link_of = upd_object q.link_of o (λ i. old 0); level_of = upd_object q.level_of o (λ i. 0); register = q.register; owing = q.owing }

-- "at first as in that image"
unfoldable pub of_image : {A : Type 0} → (ℕ → A) → A → Object → A
of_image f z (old g) = f g
of_image f z (made i) = z

unfoldable pub plain_of : Image → PlainStore
plain_of m = record {
  size_of = of_image (size m) 0;
  link_count = of_image (links m) 0;
  link_of = of_image (λ g i. old (link m g i)) (λ i. old 0);
  level_of = of_image (level m) (λ i. 0);
  register = λ p r. old (reg m p r);
  owing = λ p. not (eqb (owed m p) 0);
}

-- ---- answers, as they are compared

-- a value: an object, or a number as it is
pub data Value : Type 0 where
  as_object : Object → Value
  as_is : ℕ → Value

pub record Reply : Type 0 where
  pub number : ℕ
  pub value : Value

pub record PlainDone : Type 0 where
  pub plain : PlainStore
  pub reply : Reply

-- ---- the step

module _ (q : PlainStore) (s : Step) where
  -- what the player's register r holds
  unfoldable pub holding : ℕ → Object
  holding r = q.register s.who r

  -- 5
  unfoldable pub plain_owing : Kind → Bool
  unfolding row_of is_player fields
  plain_owing n = (row_of n).unowing && some (fields s (λ r x. is_player r && q.owing x) (row_of n))

  -- 6
  unfoldable pub plain_no_object : Kind → Bool
  unfolding row_of at_target
  plain_no_object n = let nil : ℕ → ℕ → Bool = λ r i. is_nil (holding r) in at_target s nil nil (row_of n).target

  -- the number of level words of an object
  unfoldable pub plain_levels : Object → ℕ
  plain_levels o = 4 * q.size_of o - 2 - q.link_count o

  -- 7
  unfoldable pub plain_past_end : Kind → Bool
  unfolding row_of at_target
  plain_past_end n = at_target s (λ r i. leb (q.link_count (holding r)) i) (λ r i. leb (plain_levels (holding r)) i) (row_of n).target

  -- 11
  unfoldable pub plain_nothing : Kind → Bool
  unfolding is
  plain_nothing n = is n barrier && not (q.owing s.who)

  -- "A step that numbers 3 to 8 or 11 refuse, read on this state, gets the lowest"
  unfoldable pub plain_refusal : Kind → ℕ
  plain_refusal n = first 3 (unnamed s n ∷ off_desk s 0 n ∷ plain_owing n ∷ plain_no_object n ∷ plain_past_end n ∷ bad_size s n ∷ false ∷ false ∷ plain_nothing n ∷ [])

  unfoldable pub plain_accept : PlainStore → Value → PlainDone
  plain_accept p v = record { plain = p; reply = record { number = 0; value = v } }

  -- "New puts one more object of b granules and c links, all nil and zero, in register a; that object is its value. Kinds 2, 3 and 5 to 8 act
  -- and answer as under Steps, on objects; store makes a barrier owed and barrier ends that." i is the record's place in the list.
  unfoldable pub plain_act : ℕ → Kind → PlainDone
  unfolding for_kind
  plain_act i n =
      let o : Object = q.link_of (holding s.b) s.c in
      for_kind (plain_accept q (as_is 0)) n
      ((new, plain_accept (put_reg (put_object q (made i) s.b s.c) s.who s.a (made i)) (as_object (made i)))
      ∷ (load, plain_accept (put_reg q s.who s.a o) (as_object o))
      ∷ (store, plain_accept (put_owing (put_link q (holding s.a) s.b (holding s.c)) s.who true) (as_is 0))
      ∷ (barrier, plain_accept (put_owing q s.who false) (as_is 0))
      ∷ (hand_over, plain_accept (put_reg q s.b s.c (holding s.a)) (as_is 0))
      ∷ (drop_reg, plain_accept (put_reg q s.who s.a (old 0)) (as_is 0))
      ∷ (read, plain_accept q (as_is (q.level_of (holding s.a) s.b)))
      ∷ (write, plain_accept (put_level q (holding s.a) s.b s.c) (as_is 0))
      ∷ [])

  -- "value 0, and changes nothing. Else its number is 0."
  unfoldable pub plain_outcome : ℕ → Kind → ℕ → PlainDone
  plain_outcome i n zero = plain_act i n
  plain_outcome i n (suc r) = record { plain = q; reply = record { number = suc r; value = as_is 0 } }

  unfoldable pub plain_step : ℕ → PlainDone
  plain_step i = let n : Kind = kind_of s.kind in plain_outcome i n (plain_refusal n)

-- ---- what it is fed

-- a record with its place in the list
pub record Fed : Type 0 where
  pub place : ℕ
  pub request : Step

-- kinds 1 to 8
unfoldable pub by_player : Kind → Bool
unfolding row_of is_player
by_player n = is_player (row_of n).who

-- a new answered 9
unfoldable pub for_room : Kind → ℕ → Bool
unfolding is
for_room n r = is n new && eqb r 9

-- "all steps of kinds 1 to 8 in order, refused ones too, but no new answered 9"
unfoldable pub feeds : Kind → ℕ → Bool
unfolding by_player for_room
feeds n r = by_player n && not (for_room n r)

unfoldable pub feeds_event : Event → Bool
feeds_event e = feeds (kind_of e.request.kind) e.done.number

-- the events from place i on; "of the real answers it sees only which news those are"
unfoldable pub feed : ℕ → List Event → List Fed
feed i [] = []
feed i (e ∷ es) = let r = feed (suc i) es in cond (feeds_event e) (record { place = i; request = e.request } ∷ r) r

unfoldable pub plain_run : PlainStore → List Fed → List Reply
plain_run q [] = []
plain_run q (f ∷ fs) = let d : PlainDone = plain_step q f.request f.place in d.reply ∷ plain_run d.plain fs

-- ---- how the real answers are read

-- what a granule number stands for after the event at place i: "the object of the last accepted new with value g, this one included, or,
-- with none, .. the one starting at g in the first image"
unfoldable pub named : (ℕ → Object) → ℕ → Event → ℕ → Object
unfolding is
named name i e = cond (is (kind_of e.request.kind) new && eqb e.done.number 0) (upd name e.done.value (made i)) name

-- "0 as nil"
unfoldable pub object_at : (ℕ → Object) → ℕ → Object
object_at name zero = old 0
object_at name (suc g) = name (suc g)

-- "the value g of an accepted new or load is compared as the object .. Other values, and all numbers, must be equal as they are."
unfoldable pub reading : (ℕ → Object) → Event → Reply
unfolding is
reading name e =
    let n : Kind = kind_of e.request.kind in
    record {
      number = e.done.number;
      value = cond ((is n new || is n load) && eqb e.done.number 0) (as_object (object_at name e.done.value)) (as_is e.done.value);
    }

-- the real answers of the records that the plain store is fed, read; `name` is the reading of granule numbers so far
unfoldable pub readings : (ℕ → Object) → ℕ → List Event → List Reply
readings name i [] = []
readings name i (e ∷ es) =
    let f : ℕ → Object = named name i e in
    let r = readings f (suc i) es in
    cond (feeds_event e) (reading f e ∷ r) r

-- the players' answers are the plain store's
unfoldable pub SameAnswers : Image → List Event → Type 0
SameAnswers m es = readings old 0 es ≡ plain_run (plain_of m) (feed 0 es)

-- opens all of these
unfoldable pub plain_open : ℕ
unfolding same_object is_nil upd upd_object put_reg put_link put_level put_owing put_object of_image plain_of holding plain_owing plain_no_object plain_levels plain_past_end plain_nothing plain_refusal plain_accept plain_act plain_outcome plain_step by_player for_room feeds feeds_event feed plain_run named object_at reading readings SameAnswers
plain_open = 0
