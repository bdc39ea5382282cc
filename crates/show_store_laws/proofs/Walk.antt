-- What a walk of code by hand uses, whatever the code: parts of the code, facts, and loans. Nothing here speaks of the store.
--     ty_at, first_of, rest_of, inside      the type of a local, the parts of a sequence, and a turn of a loop in a block
--     needs4           four facts of a `requires` are learned
--     LentAgain        what the holder of a `&κ mut [T]` keeps while it is lent again for κ' under the name γ₁: the lender's part at κ', and its own borrow at κ, open, with both halves of its ghost variable
--     lends_again      own (the `&κ mut [T]` ((b, o), γ, ys)) ∗ [κ]_q  ⊢ ⇛ ∃ γ₁. own (the `&κ' mut [T]` ((b, o), γ₁, ys)) ∗ LentAgain γ₁
--     comes_back       given `Room` and that zs is as long as ys:  [†κ'] ∗ LentAgain γ₁ ∗ finally γ₁ zs  ⊢ ⇛ (own (the `&κ mut [T]` ((b, o), γ, zs)) ∗ [κ]_q)
--     within, without  a lifetime ν of the walk's own is met with κ, so that a callee may ask that κ outlive it, and ends with the whole token of κ in hand
use mathlib.Core.Path.{◌≡◌, sym, ap, subst}
use Prim.Native.Nat.{ℕ, zero, suc}
use mathlib.Core.List.{List, [], ◌∷◌}
use lib.ListN.{length}
use seplogic.Ra.Ura.{Ura}
use base.Share
use base.Fraction.{full_share}
use mir.Syntax.{Lifetime, Ty, Local, Body as Code, ty_unit, local, skip as skipᴹ, seq, assign, block, loop, cond, switch, exit, return, call}
use mir.Val.{Val}
use base.Logic.{SProp, ent, sep, ex, wand, id⊢, wand_e, via, fst∗, snd∗}
use contract.Monad.{fact, fact_use}
use contract.BorrowLft.{meet_⊑_left}
use base.Fml.{Lft, GName, Share, Fml, fsep, flft, fdead, fobs, fauth, flent, fobor}
use types.Logic.{Logic, sem}
use types.Kit.{‵, raw, ⋆, ◌⊛◌, some, later, ◌$◌, ◌∵◌, !, qed, move, use1, use2, use3, drop, split, pick, fsplit, fjoin, frame, await, updating, now as at_once, show, done}
use types.SemTy.{cells, Arr}
use types.Tokens.{lft_end}
use denote.RattleType.{RattleType}
use denote.Shadow.{pure_l, pure_i}
use denote.Memory.{mem}
use denote.Ref.{MutBor}
use denote.Slice.{slice_val, MutSlice, heres, Room, finally, mut_slice_at, coded_holeys}
use denote.Lend.{Held, lends_slice, slice_back}
use denote.Index.{row, whole_out, whole_in, opens_slice, closes_slice}

-- ---- parts of the code
abbrev pub ty_at : List Local → ℕ → Ty
ty_at [] j = ty_unit
ty_at (local t h ∷ ls) zero = t
ty_at (local t h ∷ ls) (suc j) = ty_at ls j

-- the first part and the rest of a sequence, and a turn of a loop
abbrev parts : Code → Code × Code × Code
parts skipᴹ = (skipᴹ, skipᴹ, skipᴹ)
parts (seq a b) = (a, b, skipᴹ)
parts (assign p r) = (skipᴹ, skipᴹ, skipᴹ)
parts (block b) = (skipᴹ, skipᴹ, (parts b).2)
parts (loop b) = (skipᴹ, skipᴹ, b)
parts (cond c a b) = (skipᴹ, skipᴹ, skipᴹ)
parts (switch c rs) = (skipᴹ, skipᴹ, skipᴹ)
parts (exit j) = (skipᴹ, skipᴹ, skipᴹ)
parts return = (skipᴹ, skipᴹ, skipᴹ)
parts (call f rs p) = (skipᴹ, skipᴹ, skipᴹ)
parts mir.Syntax.unreachable = (skipᴹ, skipᴹ, skipᴹ)
parts (mir.Syntax.call_v _ _ _ _) = (skipᴹ, skipᴹ, skipᴹ)
parts (mir.Syntax.lend_static _ _ _) = (skipᴹ, skipᴹ, skipᴹ)

abbrev pub first_of : Code → Code
first_of c = (parts c).0

abbrev pub rest_of : Code → Code
rest_of c = (parts c).1

abbrev pub inside : Code → Code
inside c = (parts c).2

-- four facts of a `requires` are learned
pub needs4 : {M : Type 1} (𝓤 : Ura M) (φ ψ χ ω : Type 0) (P : SProp 𝓤) {Q : SProp 𝓤} → (φ → ψ → χ → ω → ent 𝓤 P Q) → ent 𝓤 (sep 𝓤 P (sep 𝓤 (fact 𝓤 φ) (sep 𝓤 (fact 𝓤 ψ) (sep 𝓤 (fact 𝓤 χ) (fact 𝓤 ω))))) Q
needs4 𝓤 φ ψ χ ω P h =
    let J : SProp 𝓤 = sep 𝓤 (fact 𝓤 χ) (fact 𝓤 ω) in
    let G : SProp 𝓤 = sep 𝓤 (fact 𝓤 ψ) J in
    let F : SProp 𝓤 = sep 𝓤 (fact 𝓤 φ) G in
    let to-J : ent 𝓤 (sep 𝓤 P F) J = via 𝓤 F (snd∗ 𝓤 P F) (via 𝓤 G (snd∗ 𝓤 (fact 𝓤 φ) G) (snd∗ 𝓤 (fact 𝓤 ψ) J)) in
    fact_use 𝓤 φ (via 𝓤 F (snd∗ 𝓤 P F) (fst∗ 𝓤 (fact 𝓤 φ) G)) (λ x.
    fact_use 𝓤 ψ (via 𝓤 F (snd∗ 𝓤 P F) (via 𝓤 G (snd∗ 𝓤 (fact 𝓤 φ) G) (fst∗ 𝓤 (fact 𝓤 ψ) J))) (λ y.
    fact_use 𝓤 χ (via 𝓤 J to-J (fst∗ 𝓤 (fact 𝓤 χ) (fact 𝓤 ω))) (λ z.
    fact_use 𝓤 ω (via 𝓤 J to-J (snd∗ 𝓤 (fact 𝓤 χ) (fact 𝓤 ω))) (λ u. via 𝓤 P (fst∗ 𝓤 P F) (h x y z u)))))

-- ---- loans
module _ (R : RattleType) (κ κ' : Lft) (q : Share) (γ : GName) (b o : ℕ) where
  abbrev at_list : GName → List R.Denot → MutBor (List R.Denot)
  at_list δ ys = record { ref_ptr = (b, o); ghost_name = δ; now = ys }

  abbrev pub LentAgain : GName → List R.Denot → Fml
  LentAgain γ₁ ys = fsep (flent κ' (Held R (length ys) b o γ₁)) (fsep (fobor κ q (Held R (length ys) b o γ)) (fsep (fobs γ ((coded_holeys R).code (heres R ys))) (fauth γ ((coded_holeys R).code (heres R ys)))))

  module _ {M : Type 1} {𝓤 : Ura M} (𝓛 : Logic 𝓤) (ℓ ℓ' : Lifetime) (ys : List R.Denot) where
    open 𝓛 use {H, A}

    abbrev vals : List Val
    vals = slice_val (b, o) (length ys) ∷ []

    pub lends_again : ent 𝓤 (sep 𝓤 (sem 𝓛 ((MutSlice ℓ κ R).own_val (at_list γ ys) vals)) (A.lft κ q))
        (H.⇛ (ex 𝓤 (λ (γ₁ : GName). sep 𝓤 (sem 𝓛 ((MutSlice ℓ' κ' R).own_val (at_list γ₁ ys) vals)) (sem 𝓛 (LentAgain γ₁ ys)))))
    lends_again =
        qed 𝓛 (‵ ((MutSlice ℓ κ R).own_val (at_list γ ys) vals) ∷ ‵ (flft κ q) ∷ []) ∵ updating ! $ fsplit ! $ pure_l ! (mut_slice_at R (at_list γ ys) vals) (λ p. fsplit ! $ opens_slice ! tt R ys b o $
        use1 𝓛 (‵ (cells (mem R) ys b o)) (whole_in 𝓛 R ys b o) $
        use1 𝓛 (later (some (λ (γ₁ : GName). ‵ ((MutSlice ℓ' κ' R).own_val (at_list γ₁ ys) vals) ⊛ ‵ (flent κ' (Held R (length ys) b o γ₁))))) (lends_slice 𝓛 R ℓ' κ' ys b o p.1) $ await ! tt $ pick ! (λ γ₁. split ! $
        -- [the new slice; the lender's part at κ'; the open borrow at κ; obs γ; auth γ]
        at_once ! $ show ! (λ (γ' : GName). sep 𝓤 (sem 𝓛 ((MutSlice ℓ' κ' R).own_val (at_list γ' ys) vals)) (sem 𝓛 (LentAgain γ' ys))) γ₁ $ frame ! $
        move ! (2 ∷ 3 ∷ []) $ fjoin ! $ move ! (2 ∷ 0 ∷ []) $ fjoin ! $ move ! (1 ∷ 0 ∷ []) $ fjoin ! $ done !))

    pub comes_back : (γ₁ : GName) (zs : List R.Denot) → Room R (length ys) → length zs ≡ length ys
        → ent 𝓤 (sep 𝓤 (A.dead κ') (sep 𝓤 (sem 𝓛 (LentAgain γ₁ ys)) (sem 𝓛 (finally R γ₁ zs)))) (H.⇛ (sep 𝓤 (sem 𝓛 ((MutSlice ℓ κ R).own_val (at_list γ zs) vals)) (A.lft κ q)))
    comes_back γ₁ zs room e =
        qed 𝓛 (‵ (fdead κ') ∷ ‵ (LentAgain γ₁ ys) ∷ ‵ (finally R γ₁ zs) ∷ []) ∵ updating ! $ move ! (1 ∷ []) $ fsplit ! $ move ! (2 ∷ 0 ∷ 3 ∷ []) $
        use3 𝓛 (later (‵ ((Arr (mem R) (length ys)).own_at zs b o))) (slice_back 𝓛 R κ' γ₁ zs (length ys) b o) $ await ! tt $ fsplit ! $ drop ! $ use1 𝓛 (‵ (row R full_share zs b o)) (whole_out 𝓛 R zs b o) $
        move ! (1 ∷ []) $ fsplit ! $ move ! (1 ∷ []) $ fsplit ! $ move ! (3 ∷ 2 ∷ 0 ∷ 1 ∷ []) $ closes_slice ! tt R ys zs e b o $ at_once ! $
        fjoin ! $ pure_i ! (mut_slice_at R (at_list γ zs) vals) (tt, (tt, tt)) (ap (λ (m : ℕ). slice_val (b, o) m ∷ []) (sym e), subst (Room R) (sym e) room) $ fjoin ! $ done !

module _ {M : Type 1} {𝓤 : Ura M} (𝓛 : Logic 𝓤) (ν : ℕ) (κ : Lft) (q : Share) where
  -- what makes ν's token whole again
  open 𝓛 use {H, A}

  abbrev pub LifetimeCarved : SProp 𝓤
  LifetimeCarved = wand 𝓤 (A.lft (ν ∷ []) (Share.left q)) (A.lft (ν ∷ []) full_share)

  pub lifetime_met : ent 𝓤 (sep 𝓤 (A.lft (ν ∷ []) full_share) (A.lft κ q)) (⋆ 𝓛 (‵ (flft (ν ∷ κ) (Share.left q)) ∷ ‵ (flft κ (Share.right q)) ∷ raw LifetimeCarved ∷ []))
  lifetime_met =
      qed 𝓛 (‵ (flft (ν ∷ []) full_share) ∷ ‵ (flft κ q) ∷ []) ∵
      use1 𝓛 (‵ (flft (ν ∷ []) (Share.left q)) ⊛ raw LifetimeCarved) (𝓛.lfts.lft_carve ν (Share.left q)) $ split ! $
      move ! (2 ∷ []) $ use1 𝓛 (‵ (flft κ (Share.left q)) ⊛ ‵ (flft κ (Share.right q))) (𝓛.lfts.lft_split κ q) $ split ! $
      move ! (2 ∷ 0 ∷ []) $ use2 𝓛 (‵ (flft (ν ∷ κ) (Share.left q))) (𝓛.lfts.lft_meet (ν ∷ []) κ (Share.left q)) $ done !

  pub lifetime_back : ent 𝓤 (⋆ 𝓛 (‵ (flft (ν ∷ κ) (Share.left q)) ∷ ‵ (flft κ (Share.right q)) ∷ raw LifetimeCarved ∷ [])) (H.⇛ (sep 𝓤 (A.dead (ν ∷ κ)) (A.lft κ q)))
  lifetime_back =
      qed 𝓛 (‵ (flft (ν ∷ κ) (Share.left q)) ∷ ‵ (flft κ (Share.right q)) ∷ raw LifetimeCarved ∷ []) ∵ updating ! $
      use1 𝓛 (‵ (flft (ν ∷ []) (Share.left q)) ⊛ ‵ (flft κ (Share.left q))) (𝓛.lfts.lft_unmeet (ν ∷ []) κ (Share.left q)) $ split ! $
      move ! (3 ∷ 0 ∷ []) $ use2 𝓛 (‵ (flft (ν ∷ []) full_share)) (wand_e 𝓤 LifetimeCarved (A.lft (ν ∷ []) (Share.left q)) (A.lft (ν ∷ []) full_share) (id⊢ 𝓤 LifetimeCarved)) $ lft_end ! tt $
      use1 𝓛 (‵ (fdead (ν ∷ κ))) (𝓛.lfts.dead-incl (ν ∷ κ) (ν ∷ []) (meet_⊑_left (ν ∷ []) κ)) $ move ! (1 ∷ 2 ∷ []) $ use2 𝓛 (‵ (flft κ q)) (𝓛.lfts.lft_join κ q) $ at_once ! $ move ! (1 ∷ 0 ∷ []) $ done !
