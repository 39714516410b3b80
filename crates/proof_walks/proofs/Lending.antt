-- What a function lends for a call and has back after it: a `&mut [T]` and a `&mut T` that it lends again, and a struct in a local.
use mathlib.Core.Path.{◌≡◌, refl, sym, ap, subst, ◌∙◌}
use Prim.Native.Nat.{ℕ, ◌+◌, ◌<◌, ◌^◌}
use mathlib.Core.Option.{some as known}
use mathlib.Core.List.{List, [], ◌∷◌}
use lib.Dec.{T as Holds}
use lib.ListN.{length}
use seplogic.Ra.Ura.{Ura}
use base.Share
use base.Fraction.{full_share}
use mir.Syntax.{Ty, ty_int, tcons, tnil, w64, erased, Body as Code, seq, assign, place, field, deref, copy, addr_of, aggregate}
use mir.Val.{Val, Vals, vptr, vint, vstruct, vcons, vnil, has_ty}
use mir.Fields.{get_v, set_v}
use base.Logic.{ent, sep, ex}
use base.Fml.{Lft, GName, Share, Fml, fat, froom, feq, fsep, flft, fdead, fobs, fauth, fres, flent, fobor}
use prog.Memory.{field_at, field_of}
use prog.Wp.{Heap, Env, Calls, Loops, spot_of}
use types.Logic.{Logic, sem}
use types.Kit.{Goal, runs, passes, Post, Soaks, Item, nth, put, Seq, Step, step, ‵, raw, ◌⊛◌, some, later, ◌$◌, ◌∵◌, !, qed, move, use1, use2}
use types.Kit.{use3, drop, rewrite, split, pick, fsplit, fjoin, fpick, fpack, feq_l, frame, await, updating, now as at_once, show, done}
use types.Part.{Part, agg, whole, sub, look_in}
use types.Run.{look, init, stop, hop, fld, from, load, addr, and_then, no_more, assigns, pass1}
use types.SemTy.{cells, Arr, Body}
use types.Tokens.{lft_new, lft_end}
use borrow.Within.Token.{Rest, within_token, within_end}
use denote.RattleType.{RattleType}
use denote.Index.{row, whole_out, whole_in, opens_slice, closes_slice}
use denote.Laws.{Is, shows}
use denote.Lend.{Held, LentAgain, lends_ref, ref_back, lends_slice, slice_back, lends_again as lends-ref-again, comes_back}
use denote.Memory.{mem, cell_at, part_of}
use denote.Ref.{MutBor, MutRef, mut_vals}
use denote.Shadow.{pure_l, pure_i}
use denote.Struct.Declared.{Declared, row as Struct-Row, shape}
use denote.Struct.Laws as LL
use denote.Struct.Steps.{spelt}
use denote.Struct.Struct.{layout}
use denote.Slice.{slice_ty, slice_val, mut_slice_vals, MutSlice, heres, Room, finally, mut_slice_at, coded_holeys}

-- a reference under another name and at another value
abbrev pub lent_at : {X : Type 0} → MutBor X → GName → X → MutBor X
lent_at x δ y = record { ref_ptr = (x.ref_ptr.0, x.ref_ptr.1); ghost_name = δ; now = y }

module _ (R : RattleType) (κ : Lft) (q : Share) (x : MutBor (List R.Denot)) where
  -- the slice, at a list; the slice as it is lent for ν under δ; and what is kept of it meanwhile
  abbrev pub Mine : List R.Denot → Fml
  Mine ys = (MutSlice erased κ R).own_val (lent_at x x.ghost_name ys) (slice_val x.ref_ptr (length ys) ∷ [])

  abbrev pub Theirs : ℕ → GName → List R.Denot → Fml
  Theirs ν δ ys = (MutSlice erased (ν ∷ []) R).own_val (lent_at x δ ys) (slice_val x.ref_ptr (length ys) ∷ [])

  abbrev pub Away : ℕ → GName → List R.Denot → Fml
  Away ν δ ys =
      fsep (flent (ν ∷ []) (Held R (length ys) x.ref_ptr.0 x.ref_ptr.1 δ))
      (fsep (fobor κ q (Held R (length ys) x.ref_ptr.0 x.ref_ptr.1 x.ghost_name))
      (fsep (fobs x.ghost_name ((coded_holeys R).code (heres R ys))) (fauth x.ghost_name ((coded_holeys R).code (heres R ys)))))

  module _ {M : Type 1} {𝓤 : Ura M} (𝓛 : Logic 𝓤) (ν : ℕ) (ys : List R.Denot) where
    open 𝓛 use {H, A}

    goes : ent 𝓤 (sep 𝓤 (sem 𝓛 (Mine ys)) (A.lft κ q)) (H.⇛ (ex 𝓤 (λ (δ : GName). sep 𝓤 (sem 𝓛 (Theirs ν δ ys)) (sem 𝓛 (Away ν δ ys)))))
    goes =
        qed 𝓛 (‵ (Mine ys) ∷ ‵ (flft κ q) ∷ []) ∵ updating ! $ fsplit ! $ pure_l !
        (mut_slice_at R (lent_at x x.ghost_name ys) (slice_val x.ref_ptr (length ys) ∷ []))
        (λ p. fsplit ! $ opens_slice ! tt R ys x.ref_ptr.0 x.ref_ptr.1 $
        use1 𝓛 (‵ (cells (mem R) ys x.ref_ptr.0 x.ref_ptr.1)) (whole_in 𝓛 R ys x.ref_ptr.0 x.ref_ptr.1) $
        use1 𝓛 (later (some (λ (δ : GName). ‵ (Theirs ν δ ys) ⊛ ‵ (flent (ν ∷ []) (Held R (length ys) x.ref_ptr.0 x.ref_ptr.1 δ)))))
        (lends_slice 𝓛 R erased (ν ∷ []) ys x.ref_ptr.0 x.ref_ptr.1 p.1) $ await ! tt $ pick ! (λ δ. split ! $
        -- [the slice lent; the lender's part; the open borrow; obs; auth]
        at_once ! $ show ! (λ (γ : GName). sep 𝓤 (sem 𝓛 (Theirs ν γ ys)) (sem 𝓛 (Away ν γ ys))) δ $ frame ! $
        move ! (2 ∷ 3 ∷ []) $ fjoin ! $ move ! (2 ∷ 0 ∷ []) $ fjoin ! $ move ! (1 ∷ 0 ∷ []) $ fjoin ! $ done !))

    comes : (δ : GName) (zs : List R.Denot) → Room R (length ys) → length zs ≡ length ys
        → ent 𝓤 (sep 𝓤 (A.dead (ν ∷ [])) (sep 𝓤 (sem 𝓛 (Away ν δ ys)) (sem 𝓛 (finally R δ zs))))
        (H.⇛ (sep 𝓤 (sem 𝓛 (Mine zs)) (A.lft κ q)))
    comes δ zs room e =
        qed 𝓛 (‵ (fdead (ν ∷ [])) ∷ ‵ (Away ν δ ys) ∷ ‵ (finally R δ zs) ∷ []) ∵ updating ! $ move ! (1 ∷ []) $ fsplit ! $ move ! (2 ∷ 0 ∷ 3 ∷ []) $
        use3 𝓛 (later (‵ ((Arr (mem R) (length ys)).own_at zs x.ref_ptr.0 x.ref_ptr.1)))
        (slice_back 𝓛 R (ν ∷ []) δ zs (length ys) x.ref_ptr.0 x.ref_ptr.1) $
        await ! tt $ fsplit ! $ drop ! $
        use1 𝓛 (‵ (row R full_share zs x.ref_ptr.0 x.ref_ptr.1)) (whole_out 𝓛 R zs x.ref_ptr.0 x.ref_ptr.1) $
        move ! (1 ∷ []) $ fsplit ! $ move ! (1 ∷ []) $ fsplit ! $ move ! (3 ∷ 2 ∷ 0 ∷ 1 ∷ []) $ closes_slice ! tt R ys zs e x.ref_ptr.0 x.ref_ptr.1 $
        at_once ! $
        fjoin ! $ pure_i ! (mut_slice_at R (lent_at x x.ghost_name zs) (slice_val x.ref_ptr (length zs) ∷ [])) (tt, (tt, tt))
        (refl, subst (Room R) (sym e) room)
        $ fjoin ! $ done !

module _ {M : Type 1} {𝓤 : Ura M} {𝓛 : Logic 𝓤} {K : Type 0} {Γ : List (Item 𝓤)} {G : Goal 𝓤 𝓛.H} (t : K) where
  -- a slice at a list as long as the one passed is owned at the machine value passed
  pub as_passed : (R : RattleType) (κ : Lft) (q : Share) (x : MutBor (List R.Denot)) (ys : List R.Denot) → length ys ≡ length x.now →
      Step K 𝓛 (‵ ((MutSlice erased κ R).own_val (lent_at x x.ghost_name ys) (mut_slice_vals x)) ∷ Γ) G (‵ (Mine R κ q x ys) ∷ Γ) G
  as_passed R κ q x ys e = rewrite t 0 (λ (m : ℕ). ‵ ((MutSlice erased κ R).own_val (lent_at x x.ghost_name ys) (slice_val x.ref_ptr m ∷ []))) e refl

  module _ (z : Soaks G) (R : RattleType) (κ : Lft) (q : Share) (x : MutBor (List R.Denot)) where
    -- it is lent, for a lifetime that is made
    pub lends-slice-again : (ys : List R.Denot) → ((ν : ℕ) (δ : GName) →
        Seq K 𝓛 (‵ (Theirs R κ q x ν δ ys) ∷ ‵ (Away R κ q x ν δ ys) ∷ ‵ (flft (ν ∷ []) full_share) ∷ Γ) G) →
        Seq K 𝓛 (‵ (Mine R κ q x ys) ∷ ‵ (flft κ q) ∷ Γ) G
    lends-slice-again ys k =
        lft_new t z (λ ν. move t (1 ∷ 2 ∷ []) $ use2 𝓛 (later (some (λ (δ : GName). ‵ (Theirs R κ q x ν δ ys) ⊛ ‵ (Away R κ q x ν δ ys))))
        (goes R κ q x 𝓛 ν ys) $ await t z $ pick t (λ δ. split t $ k ν δ))

    -- the lifetime ends, and the slice is back at its last list
    slice-comes-back : (ys zs : List R.Denot) → Room R (length ys) → length zs ≡ length ys → {ν : ℕ} {δ : GName}
        → Step K 𝓛 (‵ (Mine R κ q x zs) ∷ ‵ (flft κ q) ∷ Γ) G (‵ (flft (ν ∷ []) full_share) ∷ ‵ (Away R κ q x ν δ ys) ∷ ‵ (finally R δ zs) ∷ Γ) G
    slice-comes-back ys zs room e {ν} {δ} =
        step (λ s. lft_end t z $ use3 𝓛 (later (‵ (Mine R κ q x zs) ⊛ ‵ (flft κ q))) (comes R κ q x 𝓛 ν ys δ zs room e)
        $ await t z $ split t $ s)

    -- and the local at entry n, which holds it, holds it at that list
    pub slice-comes-back-at : (n : ℕ) {τ : Ty} {b : ℕ} (ys zs : List R.Denot) → Room R (length ys) → length zs ≡ length ys → {ν : ℕ} {δ : GName}
        → nth 𝓛 n (‵ (Mine R κ q x zs) ∷ ‵ (flft κ q) ∷ Γ) ≡ ‵ (fat full_share τ b 0 (slice_val x.ref_ptr (length ys)))
        → Step K 𝓛 (put 𝓛 n (‵ (fat full_share τ b 0 (slice_val x.ref_ptr (length zs)))) (‵ (Mine R κ q x zs) ∷ ‵ (flft κ q) ∷ Γ)) G
        (‵ (flft (ν ∷ []) full_share) ∷ ‵ (Away R κ q x ν δ ys) ∷ ‵ (finally R δ zs) ∷ Γ) G
    slice-comes-back-at n {τ} {b} ys zs room e at =
        step (λ s. slice-comes-back ys zs room e $ rewrite t n (λ (m : ℕ). ‵ (fat full_share τ b 0 (slice_val x.ref_ptr m))) (sym e) at $ s)

-- the cell of local i with a value in it, and the room for one
abbrev held : {M : Type 1} (𝓤 : Ura M) (H : Heap 𝓤) → Env 𝓤 H → ℕ → Val → Item 𝓤
held 𝓤 H E i v = ‵ (fat full_share (spot_of 𝓤 H E i).0 (spot_of 𝓤 H E i).1 0 v)

abbrev vacated : {M : Type 1} (𝓤 : Ura M) (H : Heap 𝓤) → Env 𝓤 H → ℕ → Item 𝓤
vacated 𝓤 H E i = ‵ (froom (spot_of 𝓤 H E i).0 (spot_of 𝓤 H E i).1 0)

-- the context once a slice's pointer is in local j
abbrev pointed : {M : Type 1} {𝓤 : Ura M} (𝓛 : Logic 𝓤) → Env 𝓤 𝓛.H → List (Item 𝓤) → ℕ → ℕ → ℕ × ℕ → List (Item 𝓤)
pointed {𝓤 = 𝓤} 𝓛 E Γ m j p = put 𝓛 m (held 𝓤 𝓛.H E j (vptr p.0 p.1)) Γ

abbrev slice-fields : ℕ × ℕ → ℕ → Vals
slice-fields p len = vcons (vptr p.0 p.1) (vcons (vint w64 len) vnil)

module _ {M : Type 1} {𝓤 : Ura M} {𝓛 : Logic 𝓤} {K : Type 0} {Γ : List (Item 𝓤)} (t : K) where
  -- a slice that is passed is taken in: entry n is room for it
  open 𝓛 use {H}

  pub takes-slice : (n : ℕ) {ρ : Ty} {b len : ℕ} {p : ℕ × ℕ} {E : Env 𝓤 H} {vs : List Val} {g : Goal 𝓤 H} → nth 𝓛 n Γ ≡
      ‵ (froom (slice_ty ρ) b 0) →
      Holds (has_ty (slice_ty ρ) (slice_val p len)) → len < 2 ^ 64
      → Step K 𝓛 (put 𝓛 n (‵ (fat full_share (slice_ty ρ) b 0 (slice_val p len))) Γ) (passes E vs g) Γ
      (passes ((slice_ty ρ, b) ∷ E) (slice_val p len ∷ vs) g)
  takes-slice n at_n is fits = pass1 t (init t n at_n (is, (tt, (record { fits = fits }, tt))))

-- a field of a slice's cell
within : {M : Type 1} {𝓤 : Ura M} {𝓛 : Logic 𝓤} {K : Type 0} → K →
    (f : ℕ) {σ ρ : Ty} {d b len : ℕ} {p : ℕ × ℕ} (x : Item 𝓤) →
    field_at 0 (tcons ρ (tcons (ty_int w64) tnil)) f ≡ known (σ, d) → x ≡ ‵ (fat full_share (slice_ty ρ) b 0 (slice_val p len))
    → Part K 𝓛 x full_share σ b (0 + d) (get_v (slice-fields p len) f)
    (λ u. ‵ (fat full_share (slice_ty ρ) b 0 (vstruct (set_v (slice-fields p len) f u))))
within {𝓤 = 𝓤} {𝓛 = 𝓛} {K = K} t f {σ} {ρ} {d} {b} {len} {p} x e at =
    subst (λ (y : Item 𝓤). Part K 𝓛 y full_share σ b (0 + d) (get_v (slice-fields p len) f)
    (λ u. ‵ (fat full_share (slice_ty ρ) b 0 (vstruct (set_v (slice-fields p len) f u))))) (sym at) (sub t f e (whole t))

module _ {M : Type 1} {𝓤 : Ura M} {𝓛 : Logic 𝓤} {K : Type 0} {Γ : List (Item 𝓤)} {C : Calls 𝓤 𝓛.H} {Λ : Loops 𝓤 𝓛.H}
    {E : Env 𝓤 𝓛.H} {g : Post 𝓤 𝓛.H} where
  -- The code that lends a slice again: its pointer is taken to a local, and a slice is made of that and the length. Entry n is the slice's cell, m
  -- and r are room for the two.
  open 𝓛 use {H}

  pub lends_again : K → (n m r : ℕ) {i j k : ℕ} {ρ τ : Ty} {p : ℕ × ℕ} {len : ℕ} {rest : Code} → (spot_of 𝓤 H E i).0 ≡ slice_ty ρ → nth 𝓛 n Γ ≡
      held 𝓤 H E i (slice_val p len) →
      nth 𝓛 m Γ ≡ vacated 𝓤 H E j → nth 𝓛 n (pointed 𝓛 E Γ m j p) ≡ held 𝓤 H E i (slice_val p len) →
      nth 𝓛 m (pointed 𝓛 E Γ m j p) ≡ held 𝓤 H E j (vptr p.0 p.1) → nth 𝓛 r (pointed 𝓛 E Γ m j p) ≡ vacated 𝓤 H E k →
      Holds (has_ty (spot_of 𝓤 H E j).0 (vptr p.0 p.1)) → Holds (has_ty (spot_of 𝓤 H E k).0 (slice_val p len)) → len < 2 ^ 64
      → Step K 𝓛 (put 𝓛 r (held 𝓤 H E k (slice_val p len)) (pointed 𝓛 E Γ m j p)) (runs C Λ E rest g) Γ
      (runs C Λ E (seq (assign (place j []) (addr_of (place i (field 0 ∷ deref τ ∷ []))))
      (seq (assign (place k []) (aggregate (copy (place j []) ∷ copy (place i (field 1 ∷ [])) ∷ []))) rest)) g)
  lends_again t n m r {i} {j} {k} {ρ} {τ} {p} {len} s at_n at-m still there at-r typed typed' fits =
      let spelled : held 𝓤 H E i (slice_val p len) ≡ ‵ (fat full_share (slice_ty ρ) (spot_of 𝓤 H E i).1 0 (slice_val p len)) =
      ap (λ (σ : Ty). ‵ (fat full_share σ (spot_of 𝓤 H E i).1 0 (slice_val p len))) s in
      step (λ z.
      assigns t (addr t (from t (fld t (ap (λ (σ : Ty). field_of σ 0) s)
      (hop t (look_in t n (within t 0 {len = len} {p = p} _ refl (at_n ∙ spelled))) (stop t))))) (from t (stop t)) (init t m at-m (typed, tt)) $
      assigns t (agg t (and_then t (load t (from t (stop t)) (look t m there))
      (and_then t (load t (from t (fld t (ap (λ (σ : Ty). field_of σ 1) s) (stop t)))
      (look_in t n (within t 1 {len = len} {p = p} _ refl (still ∙ spelled)))) (no_more t)))) (from t (stop t))
      (init t r at-r (typed', (tt, (record { fits = fits }, tt)))) $ z)

-- of a slice's last list and those after it: as many elements as before, and what they are
pub last-list : {M : Type 1} {𝓤 : Ura M} {𝓛 : Logic 𝓤} {K : Type 0} {Γ : List (Item 𝓤)} {G : Goal 𝓤 𝓛.H} → K →
    {X : Type 0} {x y : X} {P Q : Fml}
    → (x ≡ y → Seq K 𝓛 (‵ Q ∷ ‵ P ∷ Γ) G) → Seq K 𝓛 (‵ (fsep (fsep P (feq X x y)) Q) ∷ Γ) G
last-list t k = fsplit t $ fsplit t $ move t (1 ∷ []) $ feq_l t (λ e. move t (1 ∷ []) $ k e)

-- A `&mut T`: the reference, at a value; and what is kept of it while it is lent for ν under δ
module _ (R : RattleType) (κ : Lft) (q : Share) (x : MutBor R.Denot) where
  abbrev pub Ours : R.Denot → Fml
  Ours y = (MutRef erased κ R).own_val (lent_at x x.ghost_name y) (mut_vals x)

  abbrev pub Absent : ℕ → GName → R.Denot → Fml
  Absent ν δ y = LentAgain R κ (ν ∷ []) q x.ghost_name x.ref_ptr.0 x.ref_ptr.1 δ y

module _ {M : Type 1} {𝓤 : Ura M} {𝓛 : Logic 𝓤} {K : Type 0} {Γ : List (Item 𝓤)} {G : Goal 𝓤 𝓛.H} (t : K) (z : Soaks G)
    (R : RattleType) (κ : Lft) (q : Share) (x : MutBor R.Denot) where
  -- it is lent again, for a lifetime that is made
  pub lends-reference-again : (y : R.Denot) → ((ν : ℕ) (δ : GName) →
      Seq K 𝓛 (‵ ((MutRef erased (ν ∷ []) R).own_val (lent_at x δ y) (mut_vals x)) ∷ ‵ (Absent R κ q x ν δ y) ∷ ‵ (flft (ν ∷ []) full_share) ∷ Γ) G)
      → Seq K 𝓛 (‵ (Ours R κ q x y) ∷ ‵ (flft κ q) ∷ Γ) G
  lends-reference-again y k =
      lft_new t z (λ ν. move t (1 ∷ 2 ∷ []) $
      use2 𝓛 (later (some (λ (δ : GName). ‵ ((MutRef erased (ν ∷ []) R).own_val (lent_at x δ y) (mut_vals x)) ⊛ ‵ (Absent R κ q x ν δ y))))
      (lends-ref-again 𝓛 R erased κ (ν ∷ []) q x.ghost_name x.ref_ptr.0 x.ref_ptr.1 erased y) $ await t z $ pick t (λ δ. split t $ k ν δ))

  -- the lifetime ends, and it is back at its last value
  pub reference-comes-back : (y w : R.Denot) {ν : ℕ} {δ : GName}
      → Step K 𝓛 (‵ (Ours R κ q x w) ∷ ‵ (flft κ q) ∷ Γ) G (‵ (flft (ν ∷ []) full_share) ∷ ‵ (Absent R κ q x ν δ y) ∷ ‵ (fres δ (R.coded.code w)) ∷
      Γ) G
  reference-comes-back y w {ν} {δ} = step (λ s. lft_end t z $ use3 𝓛 (later (‵ (Ours R κ q x w) ⊛ ‵ (flft κ q)))
      (comes_back 𝓛 R erased κ (ν ∷ []) q x.ghost_name x.ref_ptr.0 x.ref_ptr.1 δ y w) $ await t z $ split t $ s)

-- A STRUCT IN A LOCAL

-- what lies there, by its machine value
module _ {M : Type 1} {𝓤 : Ura M} (𝓛 : Logic 𝓤) (D : Declared) (L : LL.Laws D) (g : D.D) (b : ℕ) where
  open 𝓛 use {H}

  abbrev R : RattleType
  R = Struct-Row D

  abbrev τ : Ty
  τ = layout (shape D)

  pub local-laid : ent 𝓤 (sep 𝓤 (H.at full_share τ b 0 (LL.val D L g)) (sem 𝓛 (R.own_val g (LL.vals D L g)))) (sem 𝓛 ((mem R).own_at g b 0))
  unfolding part_of
  local-laid =
      qed 𝓛 (‵ (fat full_share τ b 0 (LL.val D L g)) ∷ ‵ (R.own_val g (LL.vals D L g)) ∷ []) ∵
      use1 𝓛 (‵ (cell_at full_share R.mir (LL.vals D L g) b 0)) (𝓛.laws.at_raw full_share τ b 0 (LL.val D L g)) $ fjoin ! $
      fpack ! (List Val) (λ us. fsep (cell_at full_share R.mir us b 0) (R.own_val g us)) (LL.vals D L g) $ done !

  pub local-lifted : ent 𝓤 (sem 𝓛 ((mem R).own_at g b 0)) (sep 𝓤 (H.at full_share τ b 0 (LL.val D L g)) (sem 𝓛 (R.own_val g (LL.vals D L g))))
  unfolding part_of
  local-lifted =
      qed 𝓛 (‵ ((mem R).own_at g b 0) ∷ []) ∵ fpick !
      (λ vs. fsplit ! $ spelt ! R (Is R) (shows 𝓛 R) (LL.vals D L) (LL.tells D L) full_share g vs b 0 $
      use1 𝓛 (‵ (fat full_share τ b 0 (LL.val D L g))) (𝓛.laws.raw_at full_share τ b 0 (LL.val D L g)) $ done !)

-- It is lent by `&mut` for a lifetime that is made within κ, which a reference in it has: half of κ's token goes into the token of the two. It comes
-- back at its last value when the made one ends.
module _ {M : Type 1} {𝓤 : Ura M} {𝓛 : Logic 𝓤} {K : Type 0} {Γ : List (Item 𝓤)} {G : Goal 𝓤 𝓛.H} (t : K) (z : Soaks G)
    (D : Declared) (L : LL.Laws D) (κ : Lft) (q : Share) (g : D.D) (b : ℕ) where
  pub lends_local : ((ν : ℕ) (δ : GName) →
      Seq K 𝓛 (‵ ((MutRef erased (ν ∷ κ) (Struct-Row D)).own_val (record { ref_ptr = (b, 0); ghost_name = δ; now = g }) (vptr b 0 ∷ [])) ∷
      ‵ (flent (ν ∷ κ) (Body (mem (Struct-Row D)) b 0 δ)) ∷ ‵ (flft (ν ∷ κ) (Share.right q)) ∷ raw (Rest 𝓛 ν (Share.right q)) ∷
      ‵ (flft κ (Share.left q)) ∷ Γ) G)
      → Seq K 𝓛 (‵ (fat full_share (layout (shape D)) b 0 (LL.val D L g)) ∷ ‵ ((Struct-Row D).own_val g (LL.vals D L g)) ∷ ‵ (flft κ q) ∷ Γ) G
  lends_local k =
      use2 𝓛 (‵ ((mem (Struct-Row D)).own_at g b 0)) (local-laid 𝓛 D L g b) $ move t (1 ∷ []) $
      use1 𝓛 (‵ (flft κ (Share.left q)) ⊛ ‵ (flft κ (Share.right q))) (𝓛.lfts.lft_split κ q) $ split t $
      lft_new t z (λ ν. move t (0 ∷ 2 ∷ []) $
      use2 𝓛 (‵ (flft (ν ∷ κ) (Share.right q)) ⊛ raw (Rest 𝓛 ν (Share.right q))) (within_token 𝓛 ν κ (Share.right q)) $ split t $
      -- [the token of the two; the way back to the made one's; half of κ's token; what lies there]
      move t (3 ∷ []) $ use1 𝓛 (later (some
      (λ (δ : GName). ‵ ((MutRef erased (ν ∷ κ) (Struct-Row D)).own_val (record { ref_ptr = (b, 0); ghost_name = δ; now = g }) (vptr b 0 ∷ [])) ⊛
      ‵ (flent (ν ∷ κ) (Body (mem (Struct-Row D)) b 0 δ)))))
      (lends_ref 𝓛 (Struct-Row D) erased (ν ∷ κ) g b 0) $ await t z $ pick t (λ δ. split t $ k ν δ))

  pub local-comes-back : {ν : ℕ} {δ : GName}
      → Step K 𝓛 (‵ (fat full_share (layout (shape D)) b 0 (LL.val D L g)) ∷ ‵ ((Struct-Row D).own_val g (LL.vals D L g)) ∷ ‵ (flft κ q) ∷ Γ) G
      (‵ (flft (ν ∷ κ) (Share.right q)) ∷ raw (Rest 𝓛 ν (Share.right q)) ∷ ‵ (flft κ (Share.left q)) ∷
      ‵ (flent (ν ∷ κ) (Body (mem (Struct-Row D)) b 0 δ)) ∷ ‵ (fres δ ((Struct-Row D).coded.code g)) ∷ Γ) G
  local-comes-back {ν} {δ} =
      step (λ s. use2 𝓛 (later (‵ (fdead (ν ∷ κ)) ⊛ ‵ (flft κ (Share.right q)))) (within_end 𝓛 ν κ (Share.right q)) $ await t z $ split t
      $
      move t (2 ∷ 1 ∷ []) $ use2 𝓛 (‵ (flft κ q)) (𝓛.lfts.lft_join κ q) $ move t (1 ∷ 2 ∷ 3 ∷ []) $
      use3 𝓛 (later (‵ ((mem (Struct-Row D)).own_at g b 0))) (ref_back 𝓛 (Struct-Row D) (ν ∷ κ) δ g b 0) $ await t z $
      use1 𝓛 (‵ (fat full_share (layout (shape D)) b 0 (LL.val D L g)) ⊛ ‵ ((Struct-Row D).own_val g (LL.vals D L g))) (local-lifted 𝓛 D L g b) $
      split t $ s)
