-- Laws of the end of a call's argument: how the call is done, what is read after it, and which e-variable stays on in before it.
use Prim.Native.Nat.{ℕ, ◌+◌, ◌-◌, ◌≤◌, ◌<◌}
use native.Mathlib.Omega.{arith}
use mathlib.Core.Path.{◌≡◌, refl, sym, ap, ◌∙◌}
use mathlib.Core.Bool.{Bool, true, false, true≢false, not}
use mathlib.Core.List.{List, [], ◌∷◌}
use mathlib.Core.Option.{none, some}
use borrow.Author.Tests.{eqb-true}
use lib.Dec.{eqb}
use lib.ListN.{length, drop, get_or}
use Rattle.meaning.specs.Choice.{Name, pick, both, guard}
use Rattle.meaning.specs.Tree.{Expression, end, Table}
use Rattle.code_numbers.specs.Operations.{operation_meant}
use Rattle.meaning.specs.Angles.{plus, minus}
use Rattle.meaning.specs.Names.{Calling as Called, as_emission, as_angles, as_function, calling_of, number_of}
use Rattle.meaning.specs.Translation.{Shape, Manner as MeantManner, emits, computes, replaces, nests, Level, outermost, in_argument, in_tail, is_end}
use Rattle.meaning.specs.Translation.{manner_as, manner_of, level_in, ends_pattern, left_for}
use Rattle.tape_words.specs.Finding.{calling_in}
use Rattle.tape_words.specs.declared.names.Calling.{Calling}
use Rattle.tape_words.specs.declared.names.Calling.TheVariants.{Emission, Angles, Function}
use Rattle.tape_words.specs.declared.tape.Item.{Item}
use Rattle.tape_words.specs.declared.tape.Item.TheVariants.{Byte, Symbol, Part, Call, Pass, Close, Unclosed, Stop}
use Rattle.tape_words.specs.Words.{head_name, item_at}
use Rattle.code_expressions.specs.declared.expression.Walk.{Walk}
use Rattle.code_expressions.specs.declared.expression.Manner.{Manner}
use Rattle.code_expressions.specs.declared.expression.Manner.TheVariants.{Emits, Computes, Replaces, Nests}
use Rattle.code_expressions.specs.Levels.{Levels, levels_ended, first_of, others_of, item_by, levels_in}
use Rattle.code_expressions.specs.Resuming.{level_at, open_names, levels_now, rest_now, call_done, is_stop, last_call, manner_by, manner_now}
use Rattle.code_expressions.specs.Resuming.{continues}
use Rattle.code_expressions.specs.Resuming.{ending_by}
use Rattle.code_expressions.proofs.Laws.Items.{stops, Told, told, levels-at, levels-stop, stops-below, last-item}
use Rattle.code_expressions.proofs.Laws.Resumed.{open-less, open-last, outermost-moves, nested-moves}

abbrev pub meant : Manner → MeantManner
meant Emits = emits
meant (Computes op) = computes (operation_meant op)
meant Replaces = replaces
meant Nests = nests

stop-stops : (it : Item) → is_stop it ≡ true → stops it ≡ true
stop-stops Byte e = cc
stop-stops Symbol e = cc
stop-stops Part e = cc
stop-stops Call e = cc
stop-stops Pass e = cc
stop-stops Close e = cc
stop-stops Unclosed e = cc
stop-stops Stop e = refl

-- an e-variable that an item follows moves
followed-moves : (s : Shape) (level : Level) (x : Name) (e : Expression) → is_end e ≡ false → left_for s level x e ≡ none
followed-moves s outermost x e h = refl
followed-moves s in_argument x e h = refl
followed-moves s (in_tail f) x e h = rw h

module _ (ws calls : List ℕ) (w : Walk) where
  abbrev pub under : ℕ
  under = w.depth - 1

  abbrev pub called : Name
  called = head_name ws (get_or calls under 0)

  -- what is read at `next` with one call less open
  abbrev pub later : ℕ → Levels
  later next = levels_in under w.items 0 (drop next ws)

  abbrev here : Item
  here = item_at (drop w.next ws) w.depth w.items

  -- the argument of the innermost open call ends, the tape goes on at `next` after it, and `outer` comes after the open calls
  pub record Ends (next : ℕ) (outer : List Expression) : Type 0 where
    pub deep : 0 < w.depth
    pub forward : w.next ≤ next
    pub now : levels_now ws w ≡ record { current = end; outer = outer; rest = (later next).rest }
    pub first : first_of outer ≡ (later next).current
    pub others : others_of outer ≡ (later next).outer

  pub closed-ends : here ≡ Close → Ends (w.next + 1) ((later (w.next + 1)).current ∷ (later (w.next + 1)).outer)
  closed-ends e =
      let (on-tape, deep) = told ws w.next w.depth w.items Close e in
      record {
        deep = deep;
        forward = omega arith;
        now = levels-at ws w.next w.depth w.items Close on-tape e;
        first = refl;
        others = refl;
      }

  pub unclosed-ends : here ≡ Unclosed → Ends w.next []
  unclosed-ends e =
      let below : later w.next ≡ levels_ended (drop w.next ws) =
      levels-stop ws w.next under w.items (stops-below ws w.next w.depth w.items e) in
      record {
        deep = told ws w.next w.depth w.items Unclosed e;
        forward = omega arith;
        now = levels-stop ws w.next w.depth w.items (ap stops e) ∙
            ap (λ (r : List ℕ). levels_ended r) (sym (ap (λ (l : Levels). l.rest) below));
        first = sym (ap (λ (l : Levels). l.current) below);
        others = sym (ap (λ (l : Levels). l.outer) below);
      }

  module _ {next : ℕ} {outer : List Expression} (ends : Ends next outer) where
    abbrev manner : Manner
    manner = manner_now ws calls next w

    abbrev last : Bool
    last = last_call under (drop next ws) w.items

    pub manner-same : (t : Table) → manner_of (level_at t (open_names ws calls under) (others_of outer)) (first_of outer) called ≡ meant manner
    manner-same t =
        rw (open-last t ws calls under (others_of outer) (first_of outer), last-same (eqb under 0) refl) (by-calling (calling_of called) last)
      where
        last-same : (b : Bool) → eqb under 0 ≡ b → pick b (is_end (first_of outer)) false ≡ pick b (is_stop (item_at (drop next ws) 0 w.items)) false
        last-same true e = rw ends.first (rw (eqb-true under 0 e) (last-item ws next w.items))
        last-same false e = refl

        by-calling : (c : Called) (b : Bool) → manner_as c b ≡ meant (manner_by (calling_in c) b)
        by-calling as_emission b = refl
        by-calling (as_angles plus) b = refl
        by-calling (as_angles minus) b = refl
        by-calling as_function true = refl
        by-calling as_function false = refl

    -- a tail call leaves nothing to be read
    replaces-last : (c : Calling) (b : Bool) → manner_by c b ≡ Replaces → b ≡ true
    replaces-last Emission b e = cc
    replaces-last (Angles op) b e = cc
    replaces-last Function true e = refl
    replaces-last Function false e = cc

    last-stops : (b c : Bool) → pick b c false ≡ true → (b ≡ true) × (c ≡ true)
    last-stops true c e = (refl, e)
    last-stops false c e = (cc, cc)

    pub rest-same : (k : Manner) → manner ≡ k → rest_now (continues k) ws (call_done w next (continues k)) ≡ (levels_now ws w).rest
    rest-same Emits e = sym (ap (λ (l : Levels). l.rest) ends.now)
    rest-same (Computes op) e = sym (ap (λ (l : Levels). l.rest) ends.now)
    rest-same Nests e = sym (ap (λ (l : Levels). l.rest) ends.now)
    rest-same Replaces e =
        let tests = last-stops (eqb under 0) (is_stop (item_at (drop next ws) 0 w.items)) (replaces-last (calling_in (calling_of called)) last e) in
        let none_read : later next ≡ levels_ended (drop next ws) =
        rw (eqb-true under 0 tests.0) (levels-stop ws next 0 w.items (stop-stops (item_at (drop next ws) 0 w.items) tests.1)) in
        sym (ap (λ (l : Levels). l.rest) none_read) ∙ sym (ap (λ (l : Levels). l.rest) ends.now)

  -- WHICH E-VARIABLE STAYS ON IN

  -- the one before a walk is left for the call whose argument ends there
  abbrev LeftBy : Item → Type 0
  LeftBy it =
      (t : Table) (s : Shape) (x : Name)
      → left_for s (level_at t (open_names ws calls w.depth) (levels_now ws w).outer) x (levels_now ws w).current
      ≡ guard (both (not (ending_by it ws calls w).more) (ends_pattern s x)) (some (number_of t called))

  end-left : {next : ℕ} {outer : List Expression} → Ends next outer → (t : Table) (s : Shape) (x : Name)
      → left_for s (level_at t (open_names ws calls w.depth) (levels_now ws w).outer) x (levels_now ws w).current
      ≡ guard (both (not (continues (manner_now ws calls next w))) (ends_pattern s x)) (some (number_of t called))
  unfolding level_at
  end-left {next} ends t s x =
      rw (ends.now, open-less ws calls w.depth ends.deep, manner-same ends t) (by-manner (manner_now ws calls next w) (number_of t called))
    where
      by-manner : (k : Manner) (f : ℕ) → left_for s (level_in (meant k) f) x end ≡ guard (both (not (continues k)) (ends_pattern s x)) (some f)
      by-manner Emits f = refl
      by-manner (Computes op) f = refl
      by-manner Replaces f = refl
      by-manner Nests f = refl

  tells : (k : Item) → here ≡ k → Told ws w.next w.depth w.items k
  tells k e = told ws w.next w.depth w.items k e

  reads : (k : Item) → w.next < length ws → here ≡ k → levels_now ws w
      ≡ item_by k w.depth w.items (get_or ws w.next 0) (drop (w.next + 1) ws) (λ d n skip. levels_in d n skip (drop (w.next + 1) ws))
  reads k on-tape e = levels-at ws w.next w.depth w.items k on-tape e

  -- past the tail call whose argument ends there
  pub record Passed (p : Walk) : Type 0 where
    pub deep : 0 < w.depth
    pub rest : drop p.next ws ≡ (levels_now ws w).rest
    pub forward : w.next ≤ p.next
    pub next : p.next ≤ length ws + 1
    pub items : p.items ≡ w.items
    pub depth : p.depth ≡ under

  end-passed : {next : ℕ} {outer : List Expression} → Ends next outer → next ≤ length ws + 1 → continues (manner_now ws calls next w) ≡ false
      → Passed (call_done w next (continues (manner_now ws calls next w)))
  end-passed {next} ends fits e =
      let more = continues (manner_now ws calls next w) in
      let rest : rest_now more ws (call_done w next more) ≡ (levels_now ws w).rest = rest-same ends (manner_now ws calls next w) refl in
      record { deep = ends.deep; rest = rw e at rest; forward = ends.forward; next = fits; items = refl; depth = refl }

  module _ (going : w.more ≡ true) where
    -- an item follows it
    item-left : (k : Item) → ending_by k ws calls w ≡ w → is_end (levels_now ws w).current ≡ false → LeftBy k
    item-left k e h t s x =
        rw (e, going) (followed-moves s (level_at t (open_names ws calls w.depth) (levels_now ws w).outer) x (levels_now ws w).current h)

    left_by : (k : Item) → here ≡ k → LeftBy k
    left_by Byte e = item-left Byte refl (ap (λ (l : Levels). is_end l.current) (reads Byte (tells Byte e).0.inside e))
    left_by Symbol e = item-left Symbol refl (ap (λ (l : Levels). is_end l.current) (reads Symbol (tells Symbol e).inside e))
    left_by Part e = item-left Part refl (ap (λ (l : Levels). is_end l.current) (reads Part (tells Part e).inside e))
    left_by Call e = item-left Call refl (ap (λ (l : Levels). is_end l.current) (reads Call (tells Call e).0.inside e))
    left_by Pass e = λ t s x.
        rw going (nested-moves t s ws calls w.depth (levels_now ws w).outer x (levels_now ws w).current (omega (arith, (tells Pass e).1)))
    left_by Close e = end-left (closed-ends e)
    left_by Unclosed e = end-left (unclosed-ends e)
    left_by Stop e = λ t s x.
        rw going (outermost-moves t s ws calls w.depth (levels_now ws w).outer x (levels_now ws w).current (tells Stop e))

    pub left-same : LeftBy here
    left-same = left_by here refl

    passed-by : w.next ≤ length ws + 1 → (k : Item) → here ≡ k → (ending_by k ws calls w).more ≡ false → Passed (ending_by k ws calls w)
    passed-by fits Byte e h = absurd (true≢false (sym going ∙ h))
    passed-by fits Symbol e h = absurd (true≢false (sym going ∙ h))
    passed-by fits Part e h = absurd (true≢false (sym going ∙ h))
    passed-by fits Call e h = absurd (true≢false (sym going ∙ h))
    passed-by fits Pass e h = absurd (true≢false (sym going ∙ h))
    passed-by fits Close e h = end-passed (closed-ends e) (omega (arith, (tells Close e).0)) h
    passed-by fits Unclosed e h = end-passed (unclosed-ends e) fits h
    passed-by fits Stop e h = absurd (true≢false (sym going ∙ h))

    pub passed : w.next ≤ length ws + 1 → (ending_by here ws calls w).more ≡ false → Passed (ending_by here ws calls w)
    passed fits h = passed-by fits here refl h
