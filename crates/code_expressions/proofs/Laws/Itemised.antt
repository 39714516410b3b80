-- Laws of writing an expression's actions: each step keeps what the actions come to.
use Prim.Native.Nat.{ℕ, ◌+◌, ◌-◌, ◌*◌, ◌≤◌, ◌<◌}
use native.Mathlib.Omega.{arith}
use mathlib.Core.Path.{◌≡◌, refl, sym, ap, ap₂, ◌∙◌}
use mathlib.Core.Bool.{Bool, true, false, not}
use mathlib.Core.List.{List, [], ◌∷◌, ◌++◌}
use mathlib.Core.Option.{Option, some}
use lib.ListN.{length, take, drop, get_or, set, length-set}
use lib.Seq.{get_or-set_same, get_or-set_other}
use native.Mathlib.Decide.{ℕ_discrete}
use Rattle.meaning.specs.Choice.{Name, pick, both, guard, Named, same_bytes}
use Rattle.meaning.specs.Tree.{Expression, then_character, then_symbol, then_part, Table}
use Rattle.meaning.specs.Names.{number_of}
use Rattle.meaning.specs.Instructions.{Site, Action, go, select, out}
use Rattle.meaning.specs.Translation.{Shape, Manner as MeantManner, Passage, passage, rest_of, value_number, ends_pattern, left_for, where_left}
use Rattle.meaning.specs.Translation.{calling}
use Rattle.meaning.specs.Translation.{actions_of}
use Rattle.meaning.specs.Packing.{Words, code_word, span_word, pack_actions}
use Rattle.tape_words.specs.declared.tape.Item.{Item}
use Rattle.tape_words.specs.declared.tape.Item.TheVariants.{Byte, Symbol, Part, Call, Pass, Close, Unclosed, Stop}
use Rattle.code_patterns.specs.declared.pattern.Lengths.{Lengths}
use Rattle.code_patterns.specs.declared.pattern.Pattern.{Pattern}
use Rattle.code_patterns.specs.declared.symbols.Symbol.{Symbol as SVariable}
use Rattle.code_patterns.specs.Testing.{held}
use Rattle.code_actions.specs.declared.spans.Stand.{Stand}
use Rattle.code_expressions.specs.declared.expression.Walk.{Walk}
use Rattle.code_expressions.specs.declared.expression.Manner.{Manner}
use Rattle.code_expressions.specs.declared.expression.Manner.TheVariants.{Emits, Computes, Replaces, Nests}
use Rattle.tape_words.specs.Words.{carried, head_name, head_names, item_at}
use Rattle.code_expressions.specs.Levels.{place_in, Levels, levels_ended, on_current, first_of, others_of, level_opened, item_by, levels_in}
use Rattle.code_words.specs.declared.CodeWriter.{CodeWriter}
use Rattle.code_words.specs.Writer.{Written, StillToWrite}
use Rattle.tape_words.specs.Finding.{number_among}
use Rattle.code_patterns.specs.Measuring.{flag, first_part_or}
use Rattle.code_actions.specs.ActionWords.{span_words, part_words, rest_word, left_words}
use Rattle.code_actions.specs.Spanning.{meant_stand, gap_by, piece_span, stand_after, ends_by}
use Rattle.code_expressions.specs.Resuming.{level_at, resume, open_names, levels_now, remaining, rest_now, item_done, word_done, call_done}
use Rattle.code_expressions.specs.Resuming.{call_words}
use Rattle.code_expressions.specs.Resuming.{manner_now, continues, ending_words, past_ending, past_name, is_first, stays, all_done, Means, InItems}
use Rattle.code_expressions.specs.Resuming.{Innermost, call_end_words, item_words, last_words, ItemsOn, ItemsAll}
use Rattle.tape_words.proofs.Laws.Names.{name-here, name-fits-here, name-short}
use Rattle.code_expressions.proofs.Laws.Naming.{number-among, value-held}
use Rattle.code_words.proofs.Laws.Writers.{still_refl, still-trans, still-words, still-wrote, still_end}
use Rattle.code_actions.proofs.Spanned.{rest-span, passage-spans, ends_same}
use Rattle.code_expressions.proofs.Laws.Items.{stops, Reads, Told, told, levels-at, levels-past, levels-stop}
use Rattle.code_expressions.proofs.Laws.Resumed.{resume-character, resume-symbol, resume-part, resume-call, resume-end, resume-last, open_more}
use Rattle.code_expressions.proofs.Laws.Resumed.{open-less}
use Rattle.code_expressions.proofs.Laws.Endings.{meant, called, Ends, closed-ends, unclosed-ends, manner-same, rest-same, left-same, Passed}
use Rattle.code_expressions.proofs.Laws.Endings.{passed}

-- the innermost open call is known
pub innermost : {ws calls : List ℕ} {w : Walk} → InItems ws calls w → 0 < w.depth → Innermost ws calls w
innermost {w = w} within deep =
    record { deep = deep; room = omega (arith, within.depth, within.room); known = within.opened (w.depth - 1) (omega arith) }

-- past a variable that is on the tape
pub past-within : {ws calls : List ℕ} {w : Walk} → InItems ws calls w → w.next < length ws → w.items < 128 → InItems ws calls (past_name ws w)
past-within {ws} {w = w} within on-tape few =
    record {
      room = within.room;
      opened = within.opened;
      depth = within.depth;
      items = omega arith;
      next = omega (arith, name-fits-here ws w.next on-tape);
    }

-- past one that stays on in: it ends the argument of a tail call
pub left_passed : {ws calls : List ℕ} (m : Pattern) {w : Walk} → InItems ws calls w → w.next < length ws → w.items < 128 → stays ws calls m w ≡ true
    → Passed ws calls (past_name ws w) (past_ending ws calls (past_name ws w))
left_passed {ws} {calls} m {w} within on-tape few left =
    passed ws calls (past_name ws w) refl (past-within within on-tape few).next (none_more (past_ending ws calls (past_name ws w)).more left)
  where
    none_more : (more : Bool) → both (not more) (ends_by m.lengths.parts m.lengths (is_first ws m w)) ≡ true → more ≡ false
    none_more true h = cc
    none_more false h = refl

-- `it` is the item where a walk stands
module _ (ws heads : List ℕ) (symbols : List SVariable) (m : Pattern) (calls : List ℕ) (w : Walk) (within : InItems ws calls w) {it : Item}
    (is : it ≡ item_at (drop w.next ws) w.depth w.items) where
  tells : (k : Item) → it ≡ k → Told ws w.next w.depth w.items k
  tells k e = told ws w.next w.depth w.items k (sym is ∙ e)

  -- what is read from an item on
  reads : (k : Item) → w.next < length ws → it ≡ k → levels_now ws w
      ≡ item_by k w.depth w.items (get_or ws w.next 0) (drop (w.next + 1) ws) (λ d n skip. levels_in d n skip (drop (w.next + 1) ws))
  reads k inside e = levels-at ws w.next w.depth w.items k inside (sym is ∙ e)

  abbrev size : ℕ
  size = length (head_name ws w.next)

  abbrev name : Name
  name = head_name ws w.next

  -- the rest of the argument after an item that opens no call
  abbrev after : ℕ → Levels
  after n = levels_in w.depth (w.items + 1) 0 (drop (w.next + 1 + n) ws)

  -- an item of so many words after its first is written, and leads to those levels
  item_on : {code code' : CodeWriter} {words calls' : List ℕ} {r : Walk} {depth : ℕ} {stand : Stand} (n : ℕ) → Reads ws w.next w.items →
      w.next + 1 + n ≤ length ws
      → (levels_now ws w).rest ≡ (levels_now ws (item_done w n depth stand)).rest
      → ((t : Table) (s : Shape) (ss : List (Named Site)) → Means ws heads symbols m t s ss
      → remaining true t s ss ws calls w ≡ words ++ remaining true t s ss ws calls' (item_done w n depth stand))
      → Written code words code' → r ≡ item_done w n depth stand
      → length calls' ≡ 16 → ((k : ℕ) → k < depth → get_or calls' k 0 < length ws) → depth ≤ 16
      → depth ≤ w.depth + 1 → length words + call_end_words * depth ≤ call_end_words * w.depth + item_words
      → ItemsOn ws heads symbols m calls code w calls' code' r
  item_on {code} n read fits rest same wrote done long known deep one few =
      rw done record {
        same = λ t s ss means. still-wrote _ (still-words (still_refl code _) (same t s ss means)) wrote;
        rest = sym rest;
        within = record { room = long; opened = known; depth = deep; items = omega (arith, read.room); next = omega arith };
        ahead = omega arith;
        grown = omega (arith, wrote.put.next);
      }

  -- one that opens no call
  plain-on : {code code' : CodeWriter} {words : List ℕ} {r : Walk} {stand : Stand} (item : Expression → Expression) (n : ℕ) → Reads ws w.next w.items
      → w.next + 1 + n ≤ length ws → levels_now ws w ≡ on_current item (after n)
      → ((t : Table) (s : Shape) (ss : List (Named Site)) → Means ws heads symbols m t s ss
      → pack_actions (resume t s ss (open_names ws calls w.depth) (item (after n).current) (after n).outer (meant_stand w.stand))
      ≡ words ++ remaining true t s ss ws calls (item_done w n w.depth stand))
      → Written code words code' → r ≡ item_done w n w.depth stand → length words ≤ item_words
      → ItemsOn ws heads symbols m calls code w calls code' r
  plain-on item n read fits now same wrote done few =
      item_on n read fits (ap (λ (l : Levels). l.rest) now) (λ t s ss means. rw now (same t s ss means)) wrote done within.room within.opened
      within.depth (omega arith) (omega arith)

  -- a variable, whichever it is
  variable-now : (variable : Name → Expression → Expression) → Reads ws w.next w.items
      → levels_now ws w
      ≡ on_current (variable (take (carried (get_or ws w.next 0)) (drop (w.next + 1) ws)))
      (levels_in w.depth (w.items + 1) (carried (get_or ws w.next 0)) (drop (w.next + 1) ws))
      → levels_now ws w ≡ on_current (variable name) (after size)
  variable-now variable read now =
      now ∙ rw (levels-past w.depth (w.items + 1) ws w.next read.inside, ← (name-here ws w.next read.inside))

  pub character-on : {code code' : CodeWriter} {r : Walk} → it ≡ Byte → Written code (code_word 8 (get_or ws w.next 0) 0 0 ∷ []) code'
      → r ≡ item_done w 0 w.depth w.stand → ItemsOn ws heads symbols m calls code w calls code' r
  unfolding pack_actions
  character-on e wrote done =
      let read = (tells Byte e).0 in
      let z : w.next + 1 + 0 ≡ w.next + 1 = omega arith in
      let now : levels_now ws w ≡ on_current (then_character (get_or ws w.next 0)) (after 0) = reads Byte read.inside e ∙ rw z in
      plain-on (then_character (get_or ws w.next 0)) 0 read (omega (arith, read.inside)) now
      (λ t s ss means.
      ap pack_actions (resume-character t s ss (open_names ws calls w.depth) (get_or ws w.next 0) (after 0).current (after 0).outer
      (meant_stand w.stand)))
      wrote done (omega arith)

  pub value_on : {code code' : CodeWriter} {r : Walk} → it ≡ Symbol
      → Written code (code_word 9 (value_number (held ws symbols) name) 0 0 ∷ []) code'
      → r ≡ item_done w size w.depth w.stand → ItemsOn ws heads symbols m calls code w calls code' r
  unfolding pack_actions
  value_on e wrote done =
      let read = tells Symbol e in
      let now = variable-now then_symbol read (reads Symbol read.inside e) in
      plain-on (then_symbol name) size read (name-fits-here ws w.next read.inside) now
      (λ t s ss means.
      let value : value_number ss name ≡ value_number (held ws symbols) name = value-held ws ss symbols name means.known in
      ap pack_actions (resume-symbol t s ss (open_names ws calls w.depth) name (after size).current (after size).outer (meant_stand w.stand))
      ∙ ap (λ (v : ℕ). code_word 9 v 0 0 ∷ pack_actions (resume t s ss (open_names ws calls w.depth) (after size).current (after size).outer
      (meant_stand w.stand))) value)
      wrote done (omega arith)

  -- the number of the innermost open call's function
  number_same : (t : Table) (s : Shape) (ss : List (Named Site)) → Means ws heads symbols m t s ss
      → number_of t (called ws calls w) ≡ number_among 0 (head_names ws heads) (called ws calls w)
  number_same t s ss means =
      let n = called ws calls w in
      number-among 0 t n ∙ ap (λ (l : List Name). number_among 0 l n) means.functions

  abbrev first : Bool
  first = is_first ws m w

  -- past the e-variable where the walk stands
  abbrev past : Walk
  past = past_name ws w

  module _ (t : Table) (s : Shape) (ss : List (Named Site)) (means : Means ws heads symbols m t s ss) where
    abbrev way : Passage
    way = passage s name (meant_stand w.stand)

    abbrev outer-names : List Name
    outer-names = open_names ws calls w.depth

    -- its words, moved or left
    part-spans : (span_words 5 (gap_by m.lengths.parts m.lengths first w.stand) ≡ span_word 5 way.gap) ×
        (span_words 6 (piece_span m.lengths.parts m.lengths first) ≡ span_word 6 way.piece) ×
        (meant_stand (stand_after m.lengths.parts first w.stand) ≡ way.after) ×
        (ends_by m.lengths.parts m.lengths first ≡ ends_pattern s name)
    part-spans =
        let st = w.stand in
        let h = head_name ws m.variable in
        let f : first ≡ same_bytes name (first_part_or h s) = ap (same_bytes name) means.variable in
        let spans = passage-spans s name h st in (
          ap₂ (λ (l : Lengths) (b : Bool). span_words 5 (gap_by l.parts l b st)) means.lengths f ∙ ap (span_word 5) spans.0,
          ap₂ (λ (l : Lengths) (b : Bool). span_words 6 (piece_span l.parts l b)) means.lengths f ∙ ap (span_word 6) spans.1,
          ap₂ (λ (l : Lengths) (b : Bool). meant_stand (stand_after l.parts b st)) means.lengths f ∙ spans.2,
          ap₂ (λ (l : Lengths) (b : Bool). ends_by l.parts l b) means.lengths f ∙ ends_same s name h,
        )

    -- the function for whose tail call it is left
    part_left : left_for s (level_at t outer-names (after size).outer) name (after size).current
        ≡ guard (stays ws calls m w) (some (number_of t (called ws calls w)))
    part_left =
        left-same ws calls past refl t s name
        ∙ ap (λ (b : Bool). guard (both (not (past_ending ws calls past).more) b) (some (number_of t (called ws calls w)))) (sym part-spans.3)

    -- what is still to be written from it on
    part-resumed : resume t s ss outer-names (then_part name (after size).current) (after size).outer (meant_stand w.stand)
        ≡ where_left (guard (stays ws calls m w) (some (number_of t (called ws calls w)))) way
        (go way.gap ∷ select way.piece ∷ out ∷ resume t s ss outer-names (after size).current (after size).outer way.after)
    part-resumed =
        resume-part t s ss outer-names name (after size).current (after size).outer (meant_stand w.stand)
        ∙ ap (λ (o : Option ℕ). where_left o way
        (go way.gap ∷ select way.piece ∷ out ∷ resume t s ss outer-names (after size).current (after size).outer way.after)) part_left

  pub part-on : {b : Bool} {code code' : CodeWriter} {r : Walk} → it ≡ Part → b ≡ stays ws calls m w → b ≡ false
      → Written code (part_words m.lengths first w.stand) code'
      → r ≡ item_done w size w.depth (stand_after m.lengths.parts first w.stand) → ItemsOn ws heads symbols m calls code w calls code' r
  unfolding pack_actions
  part-on e asked moves wrote done =
      let read = tells Part e in
      let now = variable-now then_part read (reads Part read.inside e) in
      plain-on (then_part name) size read (name-fits-here ws w.next read.inside) now
      (λ t s ss means.
      let spans = part-spans t s ss means in
      rw (part-resumed t s ss means, ← asked, moves, spans.0, spans.1, spans.2))
      wrote done (omega arith)

  pub left-on : {b : Bool} {code code' : CodeWriter} {r : Walk} → it ≡ Part → b ≡ stays ws calls m w → b ≡ true
      → Written code (left_words m.lengths first w.stand (number_among 0 (head_names ws heads) (called ws calls w))) code'
      → r ≡ all_done (past_ending ws calls past) → ItemsOn ws heads symbols m calls code w calls code' r
  unfolding pack_actions
  left-on {code = code} e asked left wrote done =
      let read = tells Part e in
      let now = variable-now then_part read (reads Part read.inside e) in
      let gone = left_passed m within read.inside read.room (sym asked ∙ left) in
      rw done record {
        same = λ t s ss means.
            let spans = part-spans t s ss means in
            still-wrote []
            (still-words (still_refl code _)
            (rw (now, part-resumed t s ss means, ← asked, left, number_same t s ss means, spans.0, spans.1)))
            wrote;
        rest = gone.rest ∙ sym (ap (λ (l : Levels). l.rest) now);
        within =
            record {
              room = within.room;
              opened = λ k h. within.opened k (omega (arith, gone.depth));
              depth = omega (arith, gone.depth, within.depth);
              items = omega (arith, gone.items, read.room);
              next = gone.next;
            };
        ahead = omega (arith, gone.forward, gone.depth, gone.deep);
        grown = omega (arith, wrote.put.next, gone.depth, gone.deep, gone.items);
      }

  pub open-on : {calls' : List ℕ} {code code' : CodeWriter} {r : Walk} → it ≡ Call → Written code (code_word 10 0 0 0 ∷ []) code'
      → r ≡ item_done w size (w.depth + 1) w.stand → calls' ≡ set calls w.depth w.next
      → ItemsOn ws heads symbols m calls code w calls' code' r
  unfolding pack_actions
  open-on e wrote done more =
      let (read, deep) = tells Call e in
      let later = levels_in (w.depth + 1) (w.items + 1) 0 (drop (w.next + 1 + size) ws) in
      let now : levels_now ws w ≡ level_opened (place_in (get_or ws w.next 0)) name later =
      reads Call read.inside e
      ∙ rw (levels-past (w.depth + 1) (w.items + 1) ws w.next read.inside, ← (name-here ws w.next read.inside)) in
      rw more (item_on size read (name-fits-here ws w.next read.inside) (ap (λ (l : Levels). l.rest) now)
      (λ t s ss means.
      rw (now, open_more ws calls w.depth w.next (omega (arith, within.room)))
      (ap pack_actions (resume-call t s ss (open_names ws calls w.depth) (place_in (get_or ws w.next 0)) name later.current later.outer
      (meant_stand w.stand))))
      wrote done (length-set calls w.depth w.next ∙ within.room) (still deep read.inside) (omega arith) (omega arith) (omega arith))
    where
      still : w.depth < 16 → w.next < length ws → (k : ℕ) → k < w.depth + 1 → get_or (set calls w.depth w.next) k 0 < length ws
      still deep inside k h = elim (ℕ_discrete k w.depth) [
        | yes e ↦ rw (e, get_or-set_same calls w.depth w.next 0 (omega (arith, within.room))) inside
        | no e ↦ rw (get_or-set_other calls w.depth k w.next 0 e) (within.opened k (omega arith))
      ]

  rest-word : (t : Table) (s : Shape) (ss : List (Named Site)) → Means ws heads symbols m t s ss
      → rest_word m.lengths w.stand ≡ span_word 5 (rest_of s (meant_stand w.stand))
  rest-word t s ss means = ap (λ (l : Lengths). rest_word l w.stand) means.lengths ∙ ap (span_word 5) (rest-span s w.stand)

  pub pass_on : {code : CodeWriter} {r : Walk} → it ≡ Pass → r ≡ word_done w → ItemsOn ws heads symbols m calls code w calls code r
  pass_on {code} e done =
      let inside = (tells Pass e).0.inside in
      let now = reads Pass inside e in
      rw done record {
        same = λ t s ss means. still-words (still_refl code _)
            (ap (λ (l : Levels). pack_actions (resume t s ss (open_names ws calls w.depth) l.current l.outer (meant_stand w.stand))) now);
        rest = sym (ap (λ (l : Levels). l.rest) now);
        within =
            record { room = within.room; opened = within.opened; depth = within.depth; items = within.items; next = omega arith };
        ahead = omega arith;
        grown = omega arith;
      }

  pub end_on : {code code' : CodeWriter} {r : Walk} → it ≡ Stop → Written code (rest_word m.lengths w.stand ∷ 15 ∷ []) code'
      → r ≡ call_done w w.next false → ItemsOn ws heads symbols m calls code w calls code' r
  unfolding pack_actions open_names
  end_on {code} e wrote done =
      let none = tells Stop e in
      let now : levels_now ws w ≡ levels_ended (drop w.next ws) = levels-stop ws w.next w.depth w.items (ap stops (sym is ∙ e)) in
      rw done record {
        same = λ t s ss means. still-wrote []
            (still-words (still_refl code _)
            (rw (now, none) (ap pack_actions (resume-last t s ss [] (meant_stand w.stand))
            ∙ ap (λ (v : ℕ). v ∷ 15 ∷ []) (sym (rest-word t s ss means)))))
            wrote;
        rest = sym (ap (λ (l : Levels). l.rest) now);
        within =
            record {
              room = within.room;
              opened = λ k h. within.opened k (omega arith);
              depth = omega (arith, within.depth);
              items = within.items;
              next = within.next;
            };
        ahead = omega arith;
        grown = omega (arith, wrote.put.next);
      }

  -- A CALL ENDS

  module _ {next : ℕ} {outer : List Expression} (ends : Ends ws calls w next outer) (fits : next ≤ length ws + 1) where
    abbrev name-called : Name
    name-called = called ws calls w

    abbrev manner : Manner
    manner = manner_now ws calls next w

    -- its words, and what comes after them
    calling-words : (t : Table) (s : Shape) (ss : List (Named Site)) → Means ws heads symbols m t s ss
        → (k : Manner) (number : ℕ) (more : List Action)
        → pack_actions (calling s (meant k) number name-called (meant_stand w.stand) more)
        ≡ call_words k m.lengths w.stand number name-called ++ pick (continues k) (pack_actions more) []
    unfolding pack_actions
    calling-words t s ss means Emits number more = refl
    calling-words t s ss means (Computes op) number more = refl
    calling-words t s ss means Replaces number more = rw (rest-word t s ss means)
    calling-words t s ss means Nests number more = refl

    -- they are not many
    words-short : (k : Manner) (number : ℕ) → length (call_words k m.lengths w.stand number name-called) ≤ call_end_words
    words-short Emits number = omega (arith, name-short ws (get_or calls (w.depth - 1) 0))
    words-short (Computes op) number = omega arith
    words-short Replaces number = omega arith
    words-short Nests number = omega arith

    -- what is still to come once it is done
    more_same : (t : Table) (s : Shape) (ss : List (Named Site)) (b : Bool)
        → pick b (pack_actions (resume t s ss (open_names ws calls (w.depth - 1)) (first_of outer) (others_of outer) (meant_stand w.stand))) []
        ≡ remaining b t s ss ws calls (call_done w next b)
    more_same t s ss true = rw (ends.first, ends.others)
    more_same t s ss false = refl

    close-on : {code code' : CodeWriter} {r : Walk} → Written code (ending_words ws heads m.lengths calls next w) code'
        → r ≡ call_done w next (continues manner) → ItemsOn ws heads symbols m calls code w calls code' r
    close-on {code} {r = r} wrote done =
        rw done record {
          same = λ t s ss means.
              let st = meant_stand w.stand in
              let more = resume t s ss (open_names ws calls (w.depth - 1)) (first_of outer) (others_of outer) st in
              still-wrote _
              (still-words (still_refl code _)
              (rw (ends.now, open-less ws calls w.depth ends.deep)
              (ap pack_actions (resume-end t s ss name-called (open_names ws calls (w.depth - 1)) outer st)
              ∙ ap₂ (λ (k : MeantManner) (f : ℕ). pack_actions (calling s k f name-called st more)) (manner-same ws calls w ends t)
              (number_same t s ss means)
              ∙ calling-words t s ss means manner (number_among 0 (head_names ws heads) name-called) more
              ∙ ap (λ (r : Words). ending_words ws heads m.lengths calls next w ++ r) (more_same t s ss (continues manner)))))
              wrote;
          rest = rest-same ws calls w ends manner refl;
          within =
              record {
                room = within.room;
                opened = λ k i. within.opened k (omega arith);
                depth = omega (arith, within.depth);
                items = within.items;
                next = fits;
              };
          ahead = omega (arith, flag_small (continues manner), ends.deep, ends.forward);
          grown = omega (arith, wrote.put.next, ends.deep, words-short manner (number_among 0 (head_names ws heads) name-called));
        }
      where
        flag_small : (b : Bool) → flag b ≤ 1
        flag_small true = omega arith
        flag_small false = omega arith

  pub closed_on : {code code' : CodeWriter} {r : Walk} → it ≡ Close
      → Written code (ending_words ws heads m.lengths calls (w.next + 1) w) code'
      → r ≡ call_done w (w.next + 1) (continues (manner_now ws calls (w.next + 1) w)) → ItemsOn ws heads symbols m calls code w calls code' r
  closed_on e wrote done = close-on (closed-ends ws calls w (sym is ∙ e)) (omega (arith, (tells Close e).0)) wrote done

  pub unclosed-on : {code code' : CodeWriter} {r : Walk} → it ≡ Unclosed
      → Written code (ending_words ws heads m.lengths calls w.next w) code'
      → r ≡ call_done w w.next (continues (manner_now ws calls w.next w)) → ItemsOn ws heads symbols m calls code w calls code' r
  unclosed-on e wrote done = close-on (unclosed-ends ws calls w (sym is ∙ e)) within.next wrote done

-- ALL OF THEM

-- what is written so far and what is still to be written are the whole expression's actions
pub record ItemsSoFar (ws heads : List ℕ) (symbols : List SVariable) (m : Pattern) (start : ℕ) (code₀ : CodeWriter) (calls : List ℕ)
    (code : CodeWriter) (w : Walk) : Type 0 where
  pub same : (t : Table) (s : Shape) (ss : List (Named Site)) → Means ws heads symbols m t s ss
      → StillToWrite code₀ (pack_actions (actions_of t s ss (levels_in 0 0 0 (drop start ws)).current)) code (remaining w.more t s ss ws calls w)
  pub rest : rest_now w.more ws w ≡ (levels_in 0 0 0 (drop start ws)).rest
  pub within : InItems ws calls w
  pub grown : code.at + call_end_words * w.depth ≤ code₀.at + item_words * w.items + last_words * (1 - flag w.more)

pub items-go-on : {ws heads : List ℕ} {symbols : List SVariable} {m : Pattern} {start : ℕ} {calls calls' : List ℕ}
    {code₀ code code' : CodeWriter} {w r : Walk}
    → ItemsSoFar ws heads symbols m start code₀ calls code w → w.more ≡ true → ItemsOn ws heads symbols m calls code w calls' code' r
    → ItemsSoFar ws heads symbols m start code₀ calls' code' r
items-go-on s e o =
    record {
      same = λ t sh ss means. still-trans (rw e at (s.same t sh ss means)) (o.same t sh ss means);
      rest = o.rest ∙ (rw e at s.rest);
      within = o.within;
      grown = omega (arith, rw e at s.grown, o.grown);
    }

pub items-all : {ws heads : List ℕ} {symbols : List SVariable} {m : Pattern} {start : ℕ} {calls : List ℕ} {code₀ code : CodeWriter} {w : Walk}
    → ItemsSoFar ws heads symbols m start code₀ calls code w → w.more ≡ false → ItemsAll ws heads symbols m start code₀ code w
items-all s e =
    record {
      wrote = λ t sh ss means. still_end (rw e at (s.same t sh ss means));
      rest = rw e at s.rest;
      next = s.within.next;
      grown = omega (arith, rw e at s.grown, s.within.items);
    }
