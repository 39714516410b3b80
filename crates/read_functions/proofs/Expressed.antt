-- The expression's reader: the loop over its items and calls.
use Prim.Native.Nat.{ℕ, suc, ◌+◌, ◌-◌, ◌≤◌, ◌<◌}
use mathlib.Core.Path.{◌≡◌, refl, sym, ◌∙◌, ap}
use mathlib.Core.Bool.{true, false}
use mathlib.Core.Logic.{inl, inr}
use mathlib.Core.List.{List, [], ◌∷◌, ◌++◌, append_assoc, append-nil}
use native.Mathlib.Omega.{arith}
use lib.Dec.{T}
use lib.ListN.{length}
use Rattle.meaning.specs.Choice.{Bytes, Name, every}
use Rattle.meaning.specs.Tree.{Expression, end, then_call}
use Rattle.tape_layout.specs.Tape.{named, call_kind, close_kind, tape_word, expression_tape}
use Rattle.meaning.specs.Tokens as Tokens
use Rattle.meaning.specs.Grammar.{standing, then_characters}
use Rattle.meaning.specs.Reading as Reading
use Rattle.meaning.specs.Reading.{Parsed, stopped, parsed, follow, with_first, Item, characters, symbol_item, part_item, no_item, is_item, then_item}
use Rattle.meaning.proofs.Laws.Passing.{every-head, every-tail}
use Rattle.read_tokens.specs.View.{placed_of, stream, Comes}
use Rattle.read_tokens.specs.declared.Placed as Code
use Rattle.answers.specs.declared.Fault.{Fault}
use Rattle.read_bookkeeping.specs.declared.variables.Variables.{Variables}
use Rattle.read_functions.specs.declared.expressions.ExpressionCounts.{ExpressionCounts}
use Rattle.std.specs.Prelude.{Option, Some, None, Result, Ok, Err}
use Rattle.answers.specs.Numbers.{refusal_number}
use Rattle.answers.proofs.Refused.{not-accepted}
use Rattle.read_bookkeeping.specs.Written.{is_quiet, Went}
use Rattle.read_bookkeeping.specs.Tokened.{sign_is}
use Rattle.read_bookkeeping.specs.Items.{symbol_names, token_item, WordRefused}
use Rattle.read_functions.specs.Expressions.{progress_at, Going, CallStands, ExpressionStands}
use Rattle.read_functions.specs.Expressions.{item_tape, TakenInExpression, TokenJoined}
use Rattle.read_functions.specs.Expressions.{JoinsToken, WrongInExpression, call_tape, CallRead}
use Rattle.read_bookkeeping.proofs.Items.{item-then}
use Rattle.read_bookkeeping.proofs.Going.{check-wrong, stops, reads, ReadAt, has-read, went-none, went-from, went_then, stops-too}
use Rattle.read_bookkeeping.proofs.Tokening.{sign-shown, sign-first, takes, ready-place, ready-past, went-before}
use Rattle.read_bookkeeping.proofs.Refusing.{stopped-before, word-no-sign}
use Rattle.read_functions.proofs.Calling.{call_at, CallAgrees, expression_at, ExpressionAgrees}
use Rattle.read_functions.proofs.Onward.{going_on}

-- ITEMS AND CALLS BEFORE AN EXPRESSION

tape-characters : (cs : Bytes) (e : Expression) → expression_tape (then_characters cs e) ≡ cs ++ expression_tape e
unfolding expression_tape then_characters
tape-characters [] e = refl
tape-characters (c ∷ cs) e = ap (λ (ws : List ℕ). c ∷ ws) (tape-characters cs e)

tape-item : (item : Item) (e : Expression) → expression_tape (then_item item e) ≡ item_tape item ++ expression_tape e
unfolding expression_tape
tape-item (characters cs) e = tape-characters cs e
tape-item (symbol_item x) e = refl
tape-item (part_item x) e = refl
tape-item no_item e = refl

tape-call : (place : ℕ) (n : Name) (a e : Expression)
    → expression_tape (then_call place n a e)
    ≡ (named (call_kind + place) n ++ (expression_tape a ++ tape_word close_kind 0 ∷ [])) ++ expression_tape e
unfolding expression_tape
tape-call place n a e =
    ap (λ (ws : List ℕ). named (call_kind + place) n ++ ws) (sym (append_assoc (expression_tape a) (tape_word close_kind 0 ∷ []) (expression_tape e)))
    ∙ sym (append_assoc (named (call_kind + place) n) (expression_tape a ++ tape_word close_kind 0 ∷ []) (expression_tape e))

stands-characters : (cs : Bytes) (e : Expression) → T (every is_quiet cs) → ExpressionStands e → ExpressionStands (then_characters cs e)
unfolding ExpressionStands then_characters
stands-characters [] e q h = h
stands-characters (c ∷ cs) e q h = (every-head is_quiet c cs q, stands-characters cs e (every-tail is_quiet c cs q) h)

stands-item : (item : Item) (e : Expression) → T (every is_quiet (item_tape item)) → ExpressionStands e → ExpressionStands (then_item item e)
unfolding ExpressionStands
stands-item (characters cs) e q h = stands-characters cs e q h
stands-item (symbol_item x) e q h = (q, h)
stands-item (part_item x) e q h = (q, h)
stands-item no_item e q h = h

stands-call : (place : ℕ) {n : Name} (a e : Expression) → CallStands n → ExpressionStands a → ExpressionStands e
    → ExpressionStands (then_call place n a e)
unfolding ExpressionStands
stands-call place a e s g h = (s, g, h)

stands-end : ExpressionStands end
unfolding ExpressionStands
stands-end = tt

tape-end : expression_tape end ≡ []
unfolding expression_tape
tape-end = refl

first-none : (p : Parsed Reading.Items) → p ≡ with_first (λ (e : Expression). e) p
first-none (stopped number place) = refl
first-none (parsed i rest) = refl

first-first : (f g : Expression → Expression) (p : Parsed Reading.Items) → with_first f (with_first g p) ≡ with_first (λ (e : Expression). f (g e)) p
first-first f g (stopped number place) = refl
first-first f g (parsed i rest) = refl

expression-step : (more left : ℕ) (names : List Name) (depth : ℕ) (so : Reading.Progress) (t : Tokens.Placed) (ts : List Tokens.Placed) → more ≡
    suc left
    → Reading.parse_expression more names depth so (t ∷ ts) ≡ Reading.parse_expression_from (Reading.parse_expression left names) names depth so t ts
unfolding Reading.parse_expression
expression-step more left names depth so t ts n = rw n

-- THE LOOP

-- with a bound: the expression from the start is that from here with these items and calls first
pub record Behind (text : Bytes) (v : Variables) (depth : ℕ) (start : ExpressionCounts) (tape₀ tape : List ℕ) (s : ExpressionCounts)
    (bound : ℕ) : Type 0 where
  pub first : Expression → Expression
  pub left : ℕ
  pub words : List ℕ
  pub same : Reading.parse_expression bound (symbol_names text v) depth (progress_at text v start)
      (stream text Tokens.inside start.at)
      ≡ with_first first
      (Reading.parse_expression left (symbol_names text v) depth (progress_at text v s) (stream text Tokens.inside s.at))
  pub enough : length (stream text Tokens.inside s.at) ≤ left
  pub shorter : length (stream text Tokens.inside s.at) ≤ length (stream text Tokens.inside start.at)
  pub tapes : (e : Expression) → expression_tape (first e) ≡ words ++ expression_tape e
  pub stand : (e : Expression) → ExpressionStands e → ExpressionStands (first e)
  pub went : Went text start.at start.words tape₀ s.at s.words tape words

pub record Expressed (text : Bytes) (v : Variables) (depth : ℕ) (start : ExpressionCounts) (tape₀ tape : List ℕ) (s : ExpressionCounts) : Type 0
  where
    pub going : Going text v s
    pub onward : start.at ≤ s.at
    pub behind : (bound : ℕ) → length (stream text Tokens.inside start.at) ≤ bound → Behind text v depth start tape₀ tape s bound

pub expression-starts : (text : Bytes) (v : Variables) (depth : ℕ) (start : ExpressionCounts) (tape : List ℕ) →
    Going text v start
    → Expressed text v depth start tape tape start
expression-starts text v depth start tape g =
    record {
      going = g;
      onward = omega arith;
      behind =
          λ bound h.
          record {
            first = λ e. e;
            left = bound;
            words = [];
            same = first-none (expression_at text v bound depth start);
            enough = h;
            shorter = omega arith;
            tapes = λ e. refl;
            stand = λ e s. s;
            went = went-none text start.at start.words tape g.ready;
          };
    }

-- the definition's step at the first token
module _ {text : Bytes} {v : Variables} {depth : ℕ} {start : ExpressionCounts} {tape₀ tape : List ℕ} {s : ExpressionCounts} {bound : ℕ}
    {t : Tokens.Placed} {ts : List Tokens.Placed}
    (b : Behind text v depth start tape₀ tape s bound)
    (u : stream text Tokens.inside s.at ≡ t ∷ ts) where
  step-enough : suc (length ts) ≤ b.left
  step-enough = rw u at b.enough

  step-shorter : suc (length ts) ≤ length (stream text Tokens.inside start.at)
  step-shorter = rw u at b.shorter

  at-step : expression_at text v bound depth start
      ≡ with_first b.first
      (Reading.parse_expression_from (Reading.parse_expression (b.left - 1) (symbol_names text v)) (symbol_names text v) depth
      (progress_at text v s) t ts)
  at-step =
      b.same
      ∙ rw (
        u,
        expression-step b.left (b.left - 1) (symbol_names text v) depth (progress_at text v s) t ts
            (omega (arith, step-enough)),
      )

  -- one item or call more
  behind_more : {next : ExpressionCounts} {tape' : List ℕ} (f : Expression → Expression) (added : List ℕ)
      → expression_at text v bound depth start
      ≡ with_first b.first (with_first f (expression_at text v (b.left - 1) depth next))
      → length (stream text Tokens.inside next.at) ≤ length ts
      → ((e : Expression) → expression_tape (f e) ≡ added ++ expression_tape e)
      → ((e : Expression) → ExpressionStands e → ExpressionStands (f e))
      → Went text s.at s.words tape next.at next.words tape' added
      → Behind text v depth start tape₀ tape' next bound
  behind_more {next} f added same less tapes stand went =
      record {
        first = λ e. b.first (f e);
        left = b.left - 1;
        words = b.words ++ added;
        same = same ∙ first-first b.first f (expression_at text v (b.left - 1) depth next);
        enough = omega (arith, step-enough);
        shorter = omega (arith, step-shorter);
        tapes = λ e. b.tapes (f e) ∙ rw (tapes e) (sym (append_assoc b.words added (expression_tape e)));
        stand = λ e h. b.stand (f e) (stand e h);
        went = went_then b.went went;
      }

-- a token was joined to the expression, or is no item
pub record AtToken (text : Bytes) (v : Variables) (depth : ℕ) (start : ExpressionCounts) (tape₀ : List ℕ) (s : ExpressionCounts)
    (t : Code.Placed) (tape' : List ℕ) (r : Result (Option ExpressionCounts) Fault) : Type 0 where
  pub tape : List ℕ
  pub so : Expressed text v depth start tape₀ tape s
  pub comes : Comes text Tokens.inside s.at t
  pub joins : JoinsToken text v s tape t tape' r

module _ {text : Bytes} {v : Variables} {depth : ℕ} {start : ExpressionCounts} {tape₀ : List ℕ} {s : ExpressionCounts} {t : Code.Placed}
    {tape' : List ℕ} {r : Result (Option ExpressionCounts) Fault}
    (q : AtToken text v depth start tape₀ s t tape' r) where
  given : {r' : Result (Option ExpressionCounts) Fault} → r ≡ r' → TokenJoined text v s q.tape t tape' r'
  given e = rw e at q.joins.gives

  -- AN ITEM

  pub item-moves : {next : ExpressionCounts} → r ≡ Ok (Some next) → (s.at < next.at) × (next.at ≤ length text)
  item-moves e =
      let g = given e in
      (omega (arith, g.0.at, (item-then q.comes g.1).moves), g.0.going.ready.inside)

  item-behind : {next : ExpressionCounts} (bound : ℕ)
      → TakenInExpression text v s q.tape (token_item text t) t.past tape' next →
      is_item (token_item text t) ≡ true
      → Behind text v depth start tape₀ q.tape s bound
      → Behind text v depth start tape₀ tape' next bound
  item-behind bound g y b =
      let i = item-then q.comes y in
      let item = token_item text t in
      behind_more b i.unrolled (then_item item) (item_tape item) (at-step b i.unrolled ∙ rw (y, g.fault, g.progress, g.at))
      (rw g.at (omega arith))
      (tape-item item) (λ e h. stands-item item e g.quiet h) g.went

  pub item-taken : {next : ExpressionCounts} → r ≡ Ok (Some next) → Expressed text v depth start tape₀ tape' next
  item-taken e =
      let g = given e in
      record {
        going = g.0.going;
        onward = omega (arith, q.so.onward, (item-moves e).0);
        behind = λ bound h. item-behind bound g.0 g.1 (q.so.behind bound h);
      }

  pub item-wrong : {fault : Fault} {bound : ℕ} → WrongInExpression text v s (token_item text t) t.place fault × (is_item (token_item text t) ≡ true)
      → length (stream text Tokens.inside start.at) ≤ bound
      → ExpressionAgrees text v bound depth start tape₀ tape' (Err fault)
  item-wrong {fault} {bound} g h =
      let b = q.so.behind bound h in
      let i = item-then q.comes g.1 in
      let item = token_item text t in
      let rest =
      Reading.parse_expression (b.left - 1) (symbol_names text v) depth (Reading.past_item item (progress_at text v s))
      (stream text Tokens.inside t.past) in
      let wrong = not-accepted fault.refusal in
      stops (stopped-before (at-step b i.unrolled
      ∙ rw (g.1, g.0.number, g.0.place, check-wrong (refusal_number fault.refusal) (placed_of text t) (with_first (then_item item) rest) wrong)))

  -- A WORD

  pub word-refused : {fault : Fault} {bound : ℕ} → WordRefused text t fault → length (stream text Tokens.inside start.at) ≤ bound
      → ExpressionAgrees text v bound depth start tape₀ tape' (Err fault)
  word-refused {bound = bound} g h =
      let b = q.so.behind bound h in
      stops (rw (at-step b q.comes.unrolled, g.other, word-no-sign Tokens.less_than _ g.word, g.word, g.number, g.place))

  -- EITHER

  pub token-refused : {fault : Fault} {bound : ℕ} → r ≡ Err fault → length (stream text Tokens.inside start.at) ≤ bound
      → ExpressionAgrees text v bound depth start tape₀ tape' (Err fault)
  token-refused {fault} {bound} e h = by (given e)
    where
      by : TokenJoined text v s q.tape t tape' (Err fault) → ExpressionAgrees text v bound depth start tape₀ tape' (Err fault)
      by (inl w) = item-wrong w h
      by (inr w) = word-refused w h

  -- THE END

  pub expression-ends : {bound : ℕ} → r ≡ Ok None → sign_is Tokens.less_than t.token ≡ false → length (stream text Tokens.inside start.at) ≤ bound
      → ExpressionAgrees text v bound depth start tape₀ tape'
      (Ok (record { at = t.place; words = s.words; items = s.items; passed = s.passed }))
  expression-ends {bound} e n h =
      let g = given e in
      let b = q.so.behind bound h in
      let u = q.comes.unrolled in
      reads (record { expression = b.first end; progress = progress_at text v s }) (stream text Tokens.inside s.at)
      (rw (at-step b u, u, g.0.other, sign-shown text t Tokens.less_than n, g.0.wordless))
      (record {
        tokens = sym q.comes.again;
        shorter = b.shorter;
        went = rw (b.tapes end, tape-end, append-nil b.words, g.1) (went-before b.went q.comes);
        progress = refl;
        going = going_on q.so.going (ready-place q.so.going.ready q.comes);
        stands = b.stand end stands-end;
      })

-- A CALL

-- the token is the `<` of a call
pub record AtCall {text : Bytes} {v : Variables} {depth : ℕ} {start : ExpressionCounts} {tape₀ : List ℕ} {s : ExpressionCounts} {t : Code.Placed}
    {tape' : List ℕ} {r : Result (Option ExpressionCounts) Fault}
    (k : AtToken text v depth start tape₀ s t tape' r) : Type 0 where
  pub other : r ≡ Ok None
  pub angle : sign_is Tokens.less_than t.token ≡ true

module _ {text : Bytes} {v : Variables} {depth : ℕ} {start : ExpressionCounts} {tape₀ : List ℕ} {s : ExpressionCounts} {t : Code.Placed}
    {tape' : List ℕ} {r : Result (Option ExpressionCounts) Fault}
    {k : AtToken text v depth start tape₀ s t tape' r} (q : AtCall k) where
  abbrev opened : ExpressionCounts
  opened = record { at = t.past; words = s.words; items = s.items; passed = s.passed }

  abbrev called_at : ℕ → Parsed Reading.Called
  called_at left = call_at text v left depth opened t.place

  unrolled : stream text Tokens.inside s.at ≡ standing (Tokens.sign Tokens.less_than) t.place t.past ∷ stream text Tokens.naming t.past
  unrolled = sign-first text Tokens.inside s.at k.comes q.angle

  passed : s.at < t.past
  passed = (takes text Tokens.inside s.at Tokens.less_than t k.comes q.angle).onward

  -- the call begins further on in the text
  pub call-onward : (start.at < t.past) × (t.past ≤ length text)
  call-onward = (omega (arith, k.so.onward, passed), k.comes.inside)

  pub call-ready : Going text v opened × (s.words < t.past)
  call-ready =
      let g = k.so.going in
      (going_on g (ready-past g.ready k.comes), omega (arith, g.ready.charged, passed))

  -- the definition reads a call
  at_call : {bound : ℕ} (b : Behind text v depth start tape₀ k.tape s bound)
      → expression_at text v bound depth start
      ≡ with_first b.first
      (follow (called_at (b.left - 1)) λ d rest.
      with_first (then_call d.place d.name d.argument)
      (Reading.parse_expression (b.left - 1) (symbol_names text v) depth d.progress rest))
  at_call b = at-step b unrolled

  left-enough : {bound : ℕ} (b : Behind text v depth start tape₀ k.tape s bound) →
      length (stream text Tokens.naming t.past) ≤ b.left - 1
  left-enough b = omega (arith, step-enough b unrolled)

  call-behind : {tape'' : List ℕ} {next : ExpressionCounts} {bound : ℕ} (b : Behind text v depth start tape₀ k.tape s bound)
      → ReadAt (CallRead text v opened tape' tape'') (called_at (b.left - 1)) next
      → Behind text v depth start tape₀ tape'' next bound
  call-behind {tape''} {next} b read =
      let d = read.value in
      let h = read.how in
      let c = k.comes in
      behind_more b unrolled (then_call d.place d.name d.argument) (call_tape d) (at_call b ∙ rw (read.same, h.progress, h.tokens))
      (rw h.tokens at h.shorter)
      (tape-call d.place d.name d.argument)
      (λ e g. stands-call d.place d.argument e h.named h.stands g)
      (went-from (omega (arith, c.onward, c.forward)) (rw (given k q.other).1 at h.went))

  -- what the call's reader came to, with every bound that is large enough
  abbrev pub Calls : List ℕ → Result ExpressionCounts Fault → Type 0
  Calls tape'' p =
      (left : ℕ) → length (stream text Tokens.naming t.past) ≤ left → CallAgrees text v left depth opened t.place tape' tape'' p

  module _ {tape'' : List ℕ} where
    pub call-stopped : {fault : Fault} {bound : ℕ} → Calls tape'' (Err fault) → length (stream text Tokens.inside start.at) ≤ bound
        → ExpressionAgrees text v bound depth start tape₀ tape'' (Err fault)
    call-stopped {bound = bound} a h =
        let b = k.so.behind bound h in
        stops-too (a (b.left - 1) (left-enough b)) refl refl (λ g. stopped-before (at_call b ∙ rw g))

    module _ {next : ExpressionCounts} (a : Calls tape'' (Ok next)) where
      called : (left : ℕ) → length (stream text Tokens.naming t.past) ≤ left →
          ReadAt (CallRead text v opened tape' tape'') (called_at left) next
      called left h = has-read _ next refl (a left h)

      shown : ReadAt (CallRead text v opened tape' tape'') (called_at (length (stream text Tokens.naming t.past))) next
      shown = called _ (omega arith)

      pub call-moves : (s.at < next.at) × (next.at ≤ length text)
      call-moves = (omega (arith, shown.how.went.onward, passed), shown.how.going.ready.inside)

      pub call-read : Expressed text v depth start tape₀ tape'' next
      call-read =
          record {
            going = shown.how.going;
            onward = omega (arith, k.so.onward, call-moves.0);
            behind =
                λ bound l.
                let b = k.so.behind bound l in
                call-behind b (called (b.left - 1) (left-enough b));
          }
