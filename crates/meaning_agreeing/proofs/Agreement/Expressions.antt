-- An expression's instructions do what evaluating it does, whatever comes after them: by induction on the expression.
use Prim.Native.Nat.{ℕ, suc, ◌+◌, ◌≤◌, ◌<◌}
use native.Mathlib.Omega.{arith}
use mathlib.Core.Path.{◌≡◌, refl, sym, ap, ◌∙◌}
use mathlib.Core.Bool.{Bool, true, false}
use mathlib.Core.List.{List, [], ◌∷◌, ◌++◌, append-nil, append_assoc}
use mathlib.Core.Option.{Option, none, some}
use lib.Dec.{T, ltb, ltb→lt}
use lib.ListN.{length, length-map, length-append}
use borrow.Author.Tests.{le-leb}
use Rattle.meaning.specs.Choice.{Bytes, Name, Named, pick, both, guard, either, same_bytes, lookup}
use Rattle.meaning.specs.Tree.{Letter, Expression, end, then_character, then_symbol, then_part, then_call, Table}
use Rattle.meaning.specs.Names.{Calling, as_emission, as_angles, as_function, calling_of, built_in, number_of}
use Rattle.meaning.specs.Answers.{allowance_spent}
use Rattle.meaning.specs.Outcome.{Tally, pay, Outcome, done, stop, and_then}
use Rattle.meaning.specs.Rewriting.{Course, tally_of, Bindings, before, part_bytes, evaluate, called_as, call_named}
use Rattle.meaning.specs.Allowed.{nesting}
use Rattle.meaning.specs.Instructions.{Site, Action, go, select, out, use_seq, call, tail_call, emission, compute, Code}
use Rattle.meaning.specs.Machine.{Stacks, Local, span_of, is_declared, after_field, returned, with_opened, max_opened, where_payable, process}
use Rattle.meaning.specs.Runs.{endless}
use Rattle.meaning.specs.Translation.{Shape, fixed, open₁, open₂, Stand, at_start, passage_first, passage_second, passage, rest_of, nowhere, replaces}
use Rattle.meaning.specs.Translation.{nests, Level, outermost, in_argument, in_tail, is_end, in_tail_position, manner_as, manner_of, level_in}
use Rattle.meaning.specs.Translation.{is_none}
use Rattle.meaning.specs.Translation.{ends_pattern, left_for, where_left, value_number, argument_ready, calling, item_actions, passes_rest}
use Rattle.meaning.specs.Translation.{translated_function, translate}
use Rattle.meaning_agreeing.proofs.Laws.Translated.{number-low}
use Rattle.meaning_agreeing.proofs.Agreement.Carrying.{Endless, ledger, stacks, into, carried, returned-law, carried-and_then, into-and_then}
use Rattle.meaning_agreeing.proofs.Agreement.Carrying.{into-written, into-same, Applying, doing, span-opened, go-law, select_law, out-law}
use Rattle.meaning_agreeing.proofs.Agreement.Carrying.{character-law, value-law, begin-law, use-law, emission-law, compute-law, call-law}
use Rattle.meaning_agreeing.proofs.Agreement.Carrying.{tail-law}
use Rattle.meaning_agreeing.proofs.Agreement.Standing.{Move, Standing}
use Rattle.meaning_agreeing.proofs.Agreement.Sound.{Sound, the_end, a_character, a_symbol, a_part, a_call}
use Rattle.meaning.proofs.Laws.Choosing.{true-passed}

-- applying a function agrees with rewriting's application of it
pub record Callee (enter : Applying) (apply : ℕ → Bytes → Course → Outcome Bytes Course) : Type 0 where
  pub same : (frame f : ℕ) (argument below o : Bytes) (t : Course) →
      enter frame f (stacks (argument ++ below) (length argument) o) (ledger t) ≡ carried below o (apply f argument t)
  pub spent : (f : ℕ) (argument : Bytes) (t : Course) → pay f (tally_of t) ≡ none → apply f argument t ≡ stop allowance_spent 0 t

-- the argument of a tail call is written from where its sequence was opened
pub record Argued (opened : List ℕ) (o : Bytes) : Type 0 where
  pub before : Bytes
  pub written : Bytes
  pub others : List ℕ
  pub is_opened : opened ≡ length before ∷ others
  pub is_out : o ≡ before ++ written

argued-on : {opened : List ℕ} {o : Bytes} → Argued opened o → (more : Bytes) → Argued opened (o ++ more)
argued-on {o = o} a more =
    record {
      before = a.before;
      written = a.written ++ more;
      others = a.others;
      is_opened = a.is_opened;
      is_out = ap (λ (o : Bytes). o ++ more) a.is_out ∙ append_assoc a.before a.written more;
    }

-- what comes after an expression: an outermost one ends its sentence, the argument of a tail call is followed by the call
pub record Called (code : Code) (shape : Shape) (f : ℕ) (k : Stand → List Action) (opened : List ℕ) (o : Bytes) : Type 0 where
  pub declared : is_declared code f ≡ true
  pub follows : (w : Stand) → k w ≡ go (rest_of shape w) ∷ argument_ready (tail_call f ∷ [])
  pub argued : Argued opened o

abbrev pub Ending : Code → Shape → Level → (Stand → List Action) → List ℕ → Bytes → Type 0
Ending code shape outermost k opened o = (w : Stand) → k w ≡ passes_rest shape w
Ending code shape in_argument k opened o = Unit {0}
Ending code shape (in_tail f) k opened o = Called code shape f k opened o

-- it stays so as more is written
ending-on : (code : Code) (shape : Shape) (level : Level) (k : Stand → List Action) (opened : List ℕ) (o : Bytes) →
    Ending code shape level k opened o → (more : Bytes) →
    Ending code shape level k opened (o ++ more)
ending-on code shape outermost k opened o e more = e
ending-on code shape in_argument k opened o e more = tt
ending-on code shape (in_tail f) k opened o e more = record { declared = e.declared; follows = e.follows; argued = argued-on e.argued more }

-- the numbers of the table's functions are those of the code's
pub declared-in : (table : Table) (f : ℕ) → 0 < f → f ≤ length table → is_declared (translate table) f ≡ true
declared-in table f low high = rw (le-leb 1 f low, length-map table (translated_function table)) (le-leb f (length table) high)

-- a name with a number names a function of the code
numbered : (table : Table) (n : Name) → T (ltb 0 (number_of table n)) → is_declared (translate table) (number_of table n) ≡ true
numbered table n d = declared-in table (number_of table n) (ltb→lt 0 (number_of table n) d) (omega (arith, number-low 0 table n))

-- after the last e-variable of a pattern that it ends there is nothing to pass
pub rest-nowhere : (shape : Shape) (x : Name) (w : Stand) → T (ends_pattern shape x) → rest_of shape (passage shape x w).after ≡ nowhere
rest-nowhere (fixed t) x w h = absurd h
rest-nowhere (open₁ h y []) x w e = refl
rest-nowhere (open₁ h y (c ∷ t)) x w e = absurd e
rest-nowhere (open₂ h y m z t) x w e = second (same_bytes x y) t e
  where
    second : (q : Bool) (t : List Letter) → T (pick q false (is_none t)) →
        rest_of (open₂ h y m z t) (pick q (passage_first h) (passage_second m t w)).after ≡ nowhere
    second true t e = absurd e
    second false [] e = refl
    second false (c ∷ t) e = absurd e

empty : (bytes : Bytes) → length bytes ≡ 0 → bytes ≡ []
empty [] e = refl
empty (b ∷ bytes) e = absurd (omega arith)

module _ (table : Table) (shape : Shape) (sites : List (Named Site)) (bound : Bindings) (l : Local) (standing : Standing shape sites bound l)
    (below : Bytes) (frame : ℕ) (enter : Applying) (apply : ℕ → Bytes → Course → Outcome Bytes Course) (callee : Callee enter apply) where
  -- the stacks where p stands, before an item
  abbrev pub here : Stand → Bytes → Stacks
  here w o = stacks (standing.remaining w ++ below) 0 o

  -- the instructions from here on, inside so many open sequences
  abbrev pub from : List ℕ → List Action → Stand → Bytes → Course → Endless
  from opened actions w o t = doing (translate table) enter frame actions (with_opened opened l) (here w o) t

  -- an e-variable's part goes to out, and p stands after it
  part-law : (x : Name) (w : Stand) (coming : List Name) (more : List Action) (opened : List ℕ) (o : Bytes) (t : Course)
      (m : Move shape l standing.remaining w (passage shape x w) (lookup x bound.parts) coming) →
      from opened (go (passage shape x w).gap ∷ select (passage shape x w).piece ∷ out ∷ more) w o t ≡
      from opened more (passage shape x w).after (o ++ m.piece) t
  part-law x w coming more opened o t m =
      rw (
        m.whole,
        append_assoc m.gap (m.piece ++ standing.remaining (passage shape x w).after) below,
        append_assoc m.piece (standing.remaining (passage shape x w).after) below,
      )
      (go-law code enter frame _ l₁ t (passage shape x w).gap m.gap (m.piece ++ onward) o 0
      (span-opened (passage shape x w).gap l opened ∙ m.gap_size) ∙
      select_law code enter frame _ l₁ t (passage shape x w).piece m.piece onward o 0 (rw span-opened (omega (arith, m.piece_size))) ∙
      out-law code enter frame more l₁ t m.piece onward o)
    where
      code : Code
      code = translate table

      l₁ : Local
      l₁ = with_opened opened l

      onward : Bytes
      onward = standing.remaining (passage shape x w).after ++ below

  -- at the end p passes the rest of the field
  finish-law : (w : Stand) (opened : List ℕ) (o : Bytes) (t : Course) → from opened (passes_rest shape w) w o t ≡ done (stacks below 0 o) (ledger t)
  unfolding process
  finish-law w opened o t =
      go-law (translate table) enter frame [] (with_opened opened l) t (rest_of shape w) (standing.remaining w) below o 0
      (span-opened (rest_of shape w) l opened ∙ standing.to_end w)

  -- an argument written after o is selected just below p
  ready-law : (more : List Action) (opened : List ℕ) (i o argument : Bytes) (t : Course) →
      doing (translate table) enter frame (argument_ready more) (with_opened (length o ∷ opened) l) (stacks i 0 (o ++ argument)) t ≡
      doing (translate table) enter frame more (with_opened opened l) (stacks (argument ++ i) (length argument) o) t
  ready-law more opened i o argument t =
      use-law (translate table) enter frame (select nowhere ∷ more) l t opened i o argument ∙
      select_law (translate table) enter frame more (with_opened opened l) t nowhere argument i o (length argument) (omega arith)

  -- a declared call, in a frame of its own or as a tail call
  declared-call : (last : Bool) (number : ℕ) (n : Name) (w : Stand) (more : List Action) (opened : List ℕ) (o argument : Bytes) (t : Course) →
      is_declared (translate table) number ≡ true → (T last → more ≡ passes_rest shape w) →
      from (length o ∷ opened) (calling shape (pick last replaces nests) number n w more) w (o ++ argument) t ≡
      into (apply number argument t) (λ given t₁. from opened more w (o ++ given) t₁)
  declared-call true number n w more opened o argument t d e =
      go-law (translate table) enter frame (argument_ready (tail_call number ∷ [])) (with_opened (length o ∷ opened) l) t (rest_of shape w)
      (standing.remaining w) below (o ++ argument) 0
      (span-opened (rest_of shape w) l (length o ∷ opened) ∙ standing.to_end w) ∙
      ready-law (tail_call number ∷ []) opened below o argument t ∙
      tail-law (translate table) enter frame [] (with_opened opened l) t number (stacks (argument ++ below) (length argument) o) d ∙
      callee.same frame number argument below o t ∙
      into-same (apply number argument t) _ (λ given t₁. from opened more w (o ++ given) t₁)
      (λ given t₁. rw (e tt) (sym (finish-law w opened (o ++ given) t₁)))
  declared-call false number n w more opened o argument t d e =
      ready-law (call number ∷ more) opened (standing.remaining w ++ below) o argument t ∙
      call-law (translate table) enter frame more (with_opened opened l) t number
      (stacks (argument ++ (standing.remaining w ++ below)) (length argument) o) d ∙
      paid (pay number (tally_of t)) refl
    where
      paid : (p : Option Tally) → pay number (tally_of t) ≡ p →
          where_payable endless p (ledger t)
          (and_then (enter (suc frame) number (stacks (argument ++ (standing.remaining w ++ below)) (length argument) o) (ledger t))
          (λ s₁ g₁. process endless (translate table) enter frame more (with_opened opened l)
          (returned (after_field (stacks (argument ++ (standing.remaining w ++ below)) (length argument) o)) s₁) g₁)) ≡
          into (apply number argument t) (λ given t₁. from opened more w (o ++ given) t₁)
      paid none q = rw (callee.spent number argument t q)
      paid (some t₁) q = rw (callee.same (suc frame) number argument (standing.remaining w ++ below) o t)
          (carried-and_then (standing.remaining w ++ below) o (apply number argument t) _ ∙
          into-same (apply number argument t) _ _ (λ given t₂. rw (returned-law argument (standing.remaining w ++ below) o (o ++ given))))

  -- any call, by how it is done and whether it is the last item outermost: both are taken as variables
  any-call : (c : Calling) (last : Bool) (n : Name) (w : Stand) (more : List Action) (opened : List ℕ) (o argument : Bytes) (t : Course) →
      T (either (built_in c) (ltb 0 (number_of table n))) → (T last → more ≡ passes_rest shape w) →
      from (length o ∷ opened) (calling shape (manner_as c last) (number_of table n) n w more) w (o ++ argument) t ≡
      into (called_as c n argument t (apply (number_of table n) argument t)) (λ given t₁. from opened more w (o ++ given) t₁)
  any-call as_emission last n w more opened o argument t d e =
      ready-law (emission n ∷ more) opened (standing.remaining w ++ below) o argument t ∙
      emission-law (translate table) enter frame more (with_opened opened l) t n argument (standing.remaining w ++ below) o ∙
      rw append-nil
  any-call (as_angles op) last n w more opened o argument t d e =
      ready-law (compute op ∷ more) opened (standing.remaining w ++ below) o argument t ∙
      compute-law (translate table) enter frame more (with_opened opened l) t op argument (standing.remaining w ++ below) o
  any-call as_function last n w more opened o argument t d e =
      declared-call last (number_of table n) n w more opened o argument t (numbered table n d) e

  -- nothing follows the last item outermost but the way to the end of the field
  last-ends : (level : Level) (e : Expression) (w : Stand) (k : Stand → List Action) (opened : List ℕ) (o : Bytes) →
      Ending (translate table) shape level k opened o → T (in_tail_position level e) →
      item_actions table shape sites level e w k ≡ passes_rest shape w
  unfolding item_actions
  last-ends in_argument e w k opened o ending h = absurd h
  last-ends (in_tail f) e w k opened o ending h = absurd h
  last-ends outermost end w k opened o ending h = ending w
  last-ends outermost (then_character c e) w k opened o ending h = absurd h
  last-ends outermost (then_symbol x e) w k opened o ending h = absurd h
  last-ends outermost (then_part x e) w k opened o ending h = absurd h
  last-ends outermost (then_call place n a e) w k opened o ending h = absurd h

  -- after the pattern's last e-variable nothing of the field remains
  nothing_left : (x : Name) (w : Stand) → T (ends_pattern shape x) → standing.remaining (passage shape x w).after ≡ []
  nothing_left x w ends =
      empty (standing.remaining (passage shape x w).after)
      (sym (standing.to_end (passage shape x w).after) ∙ ap (λ s. span_of s l) (rest-nowhere shape x w ends))

  -- a part that stays on in is selected with what was written before it: that comes to the same as if it had been written too
  left_at : (f : ℕ) (x : Name) (w : Stand) (coming : List Name) (before written : Bytes) (others : List ℕ) (t : Course)
      (m : Move shape l standing.remaining w (passage shape x w) (lookup x bound.parts) coming) → T (ends_pattern shape x) →
      is_declared (translate table) f ≡ true →
      from (length before ∷ others) (go (passage shape x w).gap ∷ use_seq ∷ select (passage shape x w).piece ∷ tail_call f ∷ []) w
      (before ++ written) t ≡
      from (length before ∷ others) (go (rest_of shape (passage shape x w).after) ∷ argument_ready (tail_call f ∷ [])) (passage shape x w).after
      ((before ++ written) ++ m.piece) t
  left_at f x w coming before written others t m ends declared = stays ∙ sym moves
    where
      w₁ : Stand
      w₁ = (passage shape x w).after

      argument : Bytes
      argument = written ++ m.piece

      -- both come to this
      applied : Endless
      applied = enter frame f (stacks (argument ++ below) (length argument) before) (ledger t)

      selected : doing (translate table) enter frame (select (passage shape x w).piece ∷ tail_call f ∷ []) (with_opened others l)
          (stacks (written ++ (m.piece ++ below)) (length written) before) t ≡
          doing (translate table) enter frame (tail_call f ∷ []) (with_opened others l) (stacks (argument ++ below) (length argument) before) t
      selected =
          rw (← (append_assoc written m.piece below))
          (select_law (translate table) enter frame _ (with_opened others l) t (passage shape x w).piece argument below before (length written)
          (rw (span-opened, length-append) (omega (arith, m.piece_size))))

      stays : from (length before ∷ others) (go (passage shape x w).gap ∷ use_seq ∷ select (passage shape x w).piece ∷ tail_call f ∷ []) w
          (before ++ written) t ≡ applied
      stays =
          rw (m.whole, nothing_left x w ends, append-nil, append_assoc m.gap m.piece below)
          (go-law (translate table) enter frame _ (with_opened (length before ∷ others) l) t (passage shape x w).gap m.gap (m.piece ++ below)
          (before ++ written) 0 (span-opened (passage shape x w).gap l (length before ∷ others) ∙ m.gap_size) ∙
          use-law (translate table) enter frame _ l t others (m.piece ++ below) before written ∙
          selected ∙
          tail-law (translate table) enter frame [] (with_opened others l) t f _ declared)

      moves : from (length before ∷ others) (go (rest_of shape w₁) ∷ argument_ready (tail_call f ∷ [])) w₁ ((before ++ written) ++ m.piece) t ≡
          applied
      moves =
          rw (append_assoc before written m.piece)
          (go-law (translate table) enter frame _ (with_opened (length before ∷ others) l) t (rest_of shape w₁) (standing.remaining w₁) below
          (before ++ argument) 0 (span-opened (rest_of shape w₁) l (length before ∷ others) ∙ standing.to_end w₁) ∙
          ready-law (tail_call f ∷ []) others below before argument t ∙
          tail-law (translate table) enter frame [] (with_opened others l) t f _ declared)

  left-law : (f : ℕ) (x : Name) (w : Stand) (coming : List Name) (k : Stand → List Action) (opened : List ℕ) (o : Bytes) (t : Course)
      (m : Move shape l standing.remaining w (passage shape x w) (lookup x bound.parts) coming) → T (ends_pattern shape x) →
      Called (translate table) shape f k opened o →
      from opened (go (passage shape x w).gap ∷ use_seq ∷ select (passage shape x w).piece ∷ tail_call f ∷ []) w o t ≡
      from opened (k (passage shape x w).after) (passage shape x w).after (o ++ m.piece) t
  left-law f x w coming k opened o t m ends c =
      rw (c.follows (passage shape x w).after, c.argued.is_opened, c.argued.is_out)
      (left_at f x w coming c.argued.before c.argued.written c.argued.others t m ends c.declared)

  -- what follows a call's argument
  argument-ends : (c : Calling) (last : Bool) (n : Name) (more : Stand → List Action) (opened : List ℕ) (o : Bytes) →
      T (either (built_in c) (ltb 0 (number_of table n))) →
      Ending (translate table) shape (level_in (manner_as c last) (number_of table n))
      (λ w. calling shape (manner_as c last) (number_of table n) n w (more w)) (length o ∷ opened) o
  argument-ends as_emission last n more opened o known = tt
  argument-ends (as_angles op) last n more opened o known = tt
  argument-ends as_function false n more opened o known = tt
  argument-ends as_function true n more opened o known =
      record {
        declared = numbered table n known;
        follows = λ w. refl;
        argued = record { before = o; written = []; others = opened; is_opened = refl; is_out = sym (append-nil o) };
      }

  -- an e-variable is moved, or left
  left_or : (level : Level) (x : Name) (e : Expression) (w : Stand) (k : Stand → List Action) (opened : List ℕ) (o : Bytes) (t : Course)
      (moving : List Action) (r : Endless) →
      Ending (translate table) shape level k opened o → from opened moving w o t ≡ r →
      ((f : ℕ) → Called (translate table) shape f k opened o → T (is_end e) → T (ends_pattern shape x) →
      from opened (go (passage shape x w).gap ∷ use_seq ∷ select (passage shape x w).piece ∷ tail_call f ∷ []) w o t ≡ r) →
      from opened (where_left (left_for shape level x e) (passage shape x w) moving) w o t ≡ r
  left_or outermost x e w k opened o t moving r ending moved left = moved
  left_or in_argument x e w k opened o t moving r ending moved left = moved
  left_or (in_tail f) x e w k opened o t moving r ending moved left = by (is_end e) (ends_pattern shape x) refl refl
    where
      by : (a b : Bool) → is_end e ≡ a → ends_pattern shape x ≡ b →
          from opened (where_left (guard (both a b) (some f)) (passage shape x w) moving) w o t ≡ r
      by true true ea eb = left f ending (true-passed _ ea) (true-passed _ eb)
      by true false ea eb = moved
      by false b ea eb = moved

  -- nothing comes after the last item
  ended : {e : Expression} {w w₁ : Stand} → Sound table shape sites bound l standing e w w₁ → T (is_end e) →
      (t : Course) (j : Stand → Bytes → Course → Endless) →
      j w [] t ≡ into (evaluate (call_named table apply) bound e t) (j w₁)
  unfolding evaluate
  ended the_end h t j = refl
  ended (a_character sound) h t j = absurd h
  ended (a_symbol v sound) h t j = absurd h
  ended (a_part m sound) h t j = absurd h
  ended (a_call known sound_a sound) h t j = absurd h

  -- THE LEMMA: the items of an expression, then what follows them, come to the evaluation of the expression and then the same. What out held before
  -- and what lies below the field stay as they are; a call's argument opens one sequence more, so nesting and open sequences together stay within
  -- what the machine allows.
  pub expressed : {e : Expression} {w w₁ : Stand} (sound : Sound table shape sites bound l standing e w w₁)
      (b : Level) (k : Stand → List Action) (opened : List ℕ) (o : Bytes) (t : Course) → Ending (translate table) shape b k opened o →
      nesting e + length opened ≤ max_opened →
      from opened (item_actions table shape sites b e w k) w o t ≡
      into (evaluate (call_named table apply) bound e t) (λ text t₁. from opened (k w₁) w₁ (o ++ text) t₁)
  unfolding item_actions evaluate nesting
  expressed the_end b k opened o t ending h = rw append-nil
  expressed {w} {w₁} (a_character {c} {e} sound) b k opened o t ending h =
      character-law (translate table) enter frame (item_actions table shape sites b e w k) (with_opened opened l) t c 0
      (standing.remaining w ++ below)
      o ∙
      expressed sound b k opened (o ++ c ∷ []) t (ending-on (translate table) shape b k opened o ending _) h ∙
      into-written (c ∷ []) o (evaluate (call_named table apply) bound e t) (λ text t₁. from opened (k w₁) w₁ text t₁)
  expressed {w} {w₁} (a_symbol {x} {e} v sound) b k opened o t ending h =
      value-law (translate table) enter frame (item_actions table shape sites b e w k) (with_opened opened l) t (value_number sites x) v.byte 0
      (standing.remaining w ++ below) o v.stored ∙
      expressed sound b k opened (o ++ v.byte ∷ []) t (ending-on (translate table) shape b k opened o ending _) h ∙
      rw v.taken (into-written (v.byte ∷ []) o (evaluate (call_named table apply) bound e t) (λ text t₁. from opened (k w₁) w₁ text t₁))
  expressed {w} {w₁} (a_part {x} {e} {later} m sound) b k opened o t ending h =
      left_or b x e w k opened o t _ _ ending
      (part-law x w later (item_actions table shape sites b e (passage shape x w).after k) opened o t m ∙
      expressed sound b k opened (o ++ m.piece) t (ending-on (translate table) shape b k opened o ending _) h ∙ written)
      (λ f c last ends. left-law f x w later k opened o t m ends c ∙
      rw append-nil at (ended sound last t (λ w text t₁. from opened (k w) w ((o ++ m.piece) ++ text) t₁)) ∙ written)
    where
      written : into (evaluate (call_named table apply) bound e t) (λ text t₁. from opened (k w₁) w₁ ((o ++ m.piece) ++ text) t₁) ≡
          into (before (part_bytes (lookup x bound.parts)) (evaluate (call_named table apply) bound e t))
          (λ text t₁. from opened (k w₁) w₁ (o ++ text) t₁)
      written = rw m.taken (into-written m.piece o (evaluate (call_named table apply) bound e t) (λ text t₁. from opened (k w₁) w₁ text t₁))
  expressed {w} {w₁ = w₂} (a_call {place} {n} {a} {e} {w₁} known sound_a sound) b k opened o t ending h =
      begin-law (translate table) enter frame (item_actions table shape sites (level_in (manner_of b e n) (number_of table n)) a w more)
      (with_opened opened l) t
      (standing.remaining w ++ below) o 0 (omega arith) ∙
      expressed sound_a (level_in (manner_of b e n) (number_of table n)) more (length o ∷ opened) o t
      (argument-ends (calling_of n) (in_tail_position b e) n (λ w₁. item_actions table shape sites b e w₁ k) opened o known) (omega arith) ∙
      into-same (evaluate (call_named table apply) bound a t) (λ text t₁. from (length o ∷ opened) (more w₁) w₁ (o ++ text) t₁)
      (λ text t₁. into (called text t₁) (λ text t₂. j (o ++ text) t₂)) (λ text t₁.
      any-call (calling_of n) (in_tail_position b e) n w₁ (item_actions table shape sites b e w₁ k) opened o text t₁ known
      (last-ends b e w₁ k opened o ending) ∙
      into-same (call_named table apply n text t₁) (λ given t₂. from opened (item_actions table shape sites b e w₁ k) w₁ (o ++ given) t₂)
      (λ given t₂. into (before given (evaluate (call_named table apply) bound e t₂)) (λ text t₃. j (o ++ text) t₃)) (λ given t₂.
      expressed sound b k opened (o ++ given) t₂ (ending-on (translate table) shape b k opened o ending _) (omega arith) ∙
      into-written given o (evaluate (call_named table apply) bound e t₂) j) ∙
      sym (into-and_then (call_named table apply n text t₁) (λ given t₂. before given (evaluate (call_named table apply) bound e t₂))
      (λ text t₃. j (o ++ text) t₃))) ∙
      sym (into-and_then (evaluate (call_named table apply) bound a t) called (λ text t₃. j (o ++ text) t₃))
    where
      more : Stand → List Action
      more w₁ = calling shape (manner_of b e n) (number_of table n) n w₁ (item_actions table shape sites b e w₁ k)

      j : Bytes → Course → Endless
      j text t₁ = from opened (k w₂) w₂ text t₁

      called : Bytes → Course → Outcome Bytes Course
      called text t₁ = and_then (call_named table apply n text t₁) (λ given t₂. before given (evaluate (call_named table apply) bound e t₂))

  -- a sentence's whole expression, from the field's start to its end
  pub evaluated : {e : Expression} {w : Stand} → Sound table shape sites bound l standing e at_start w → nesting e ≤ max_opened →
      (o : Bytes) (t : Course) →
      from [] (item_actions table shape sites outermost e at_start (passes_rest shape)) at_start o t ≡
      carried below o (evaluate (call_named table apply) bound e t)
  evaluated {e} {w} sound h o t =
      expressed sound outermost (passes_rest shape) [] o t (λ w. refl) (omega arith) ∙
      into-same (evaluate (call_named table apply) bound e t) _ _ (λ text t₁. finish-law w [] (o ++ text) t₁)
