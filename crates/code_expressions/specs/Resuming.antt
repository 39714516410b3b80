-- A sentence's expression as actions, as they are written item by item: what is still to be written from where the
-- writing stands.
use Rattle.std.specs.Prelude.{ℕ, zero, suc, ◌+◌, ◌-◌, ◌*◌, ◌≤◌, ◌<◌, ◌≡◌, Bool, true, false, not, List, [], ◌∷◌}
use Rattle.std.specs.Prelude.{map, eqb, length, drop, get_or}
use Rattle.meaning.specs.Choice.{Name, pick, both, Named, same_bytes}
use Rattle.meaning.specs.Tree.{Expression, Table}
use Rattle.meaning.specs.Names.{calling_of, number_of}
use Rattle.meaning.specs.Allowed.{names_of, max_items, max_nesting}
use Rattle.meaning.specs.Instructions.{Site, Action}
use Rattle.meaning.specs.Translation.{Shape, Stand as MeantStand, Level, outermost, manner_of, level_in, calling}
use Rattle.meaning.specs.Translation.{item_actions, passes_rest, actions_of}
use Rattle.meaning.specs.Packing.{Words, code_word, pack_actions, actions_end, call_number, emission_number}
use Rattle.meaning.specs.Packing.{tail_call_number}
use Rattle.tape_words.specs.declared.names.Calling.{Calling}
use Rattle.tape_words.specs.declared.names.Calling.TheVariants.{Emission, Angles, Function}
use Rattle.tape_words.specs.declared.tape.Item.{Item}
use Rattle.tape_words.specs.declared.tape.Item.TheVariants.{Byte, Symbol, Part, Call, Pass, Close, Unclosed, Stop}
use Rattle.code_patterns.specs.declared.pattern.Lengths.{Lengths}
use Rattle.code_patterns.specs.declared.pattern.Pattern.{Pattern}
use Rattle.code_patterns.specs.declared.symbols.Symbol.{Symbol as SVariable}
use Rattle.code_actions.specs.declared.spans.Stand.{Stand}
use Rattle.code_expressions.specs.declared.expression.Walk.{Walk}
use Rattle.code_expressions.specs.declared.expression.Manner.{Manner}
use Rattle.code_expressions.specs.declared.expression.Manner.TheVariants.{Emits, Computes, Replaces, Nests}
use Rattle.tape_words.specs.Words.{head_name, head_names, item_at}
use Rattle.code_expressions.specs.Levels.{Levels, first_of, others_of, levels_in}
use Rattle.code_numbers.specs.Numbers.{operand}
use Rattle.code_numbers.specs.Operations.{operation_meant}
use Rattle.code_words.specs.declared.CodeWriter.{CodeWriter}
use Rattle.code_words.specs.Writer.{Written, StillToWrite}
use Rattle.tape_words.specs.Finding.{number_among, calling_in}
use Rattle.code_patterns.specs.Measuring.{flag, lengths_of, first_part_or}
use Rattle.code_patterns.specs.Testing.{symbol_name}
use Rattle.code_actions.specs.Spanning.{meant_stand, ends_by}
use Rattle.code_actions.specs.ActionWords.{rest_word, ready_words, computation_word}

-- WHAT IS STILL TO COME

-- where the innermost open call's argument stands, or the expression where none is open
unfoldable pub level_at : Table → List Name → List Expression → Level
level_at t [] outer = outermost
level_at t (n ∷ ns) outer = level_in (manner_of (level_at t ns (others_of outer)) (first_of outer) n) (number_of t n)

-- the actions still to come: the rest of the innermost open call's argument, then that call, what comes after it, and
-- so on outwards
unfoldable pub resume : Table → Shape → List (Named Site) → List Name → Expression → List Expression → MeantStand
    → List Action
resume t s ss [] e outer w = item_actions t s ss outermost e w (passes_rest s)
resume t s ss (n ∷ ns) e outer w =
    item_actions t s ss (level_at t (n ∷ ns) outer) e w
    (λ w₁.
    let more = resume t s ss ns (first_of outer) (others_of outer) w₁ in
    calling s (manner_of (level_at t ns (others_of outer)) (first_of outer) n) (number_of t n) n w₁ more)

-- the names of the open calls, the innermost first
unfoldable pub open_names : List ℕ → List ℕ → ℕ → List Name
open_names ws calls zero = []
open_names ws calls (suc depth) = head_name ws (get_or calls depth 0) ∷ open_names ws calls depth

abbrev pub levels_now : List ℕ → Walk → Levels
levels_now ws w = levels_in w.depth w.items 0 (drop w.next ws)

abbrev pub remaining : Bool → Table → Shape → List (Named Site) → List ℕ → List ℕ → Walk → Words
remaining true t s ss ws calls w =
    pack_actions (resume t s ss (open_names ws calls w.depth) (levels_now ws w).current (levels_now ws w).outer
    (meant_stand w.stand))
remaining false t s ss ws calls w = []

abbrev pub rest_now : Bool → List ℕ → Walk → List ℕ
rest_now true ws w = (levels_now ws w).rest
rest_now false ws w = drop w.next ws

-- THE STEPS

abbrev pub item_done : Walk → ℕ → ℕ → Stand → Walk
item_done w size depth stand =
    record { next = w.next + 1 + size; items = w.items + 1; depth = depth; stand = stand; more = true }

abbrev pub word_done : Walk → Walk
word_done w =
    record { next = w.next + 1; items = w.items; depth = w.depth; stand = w.stand; more = true }

abbrev pub call_done : Walk → ℕ → Bool → Walk
call_done w next more =
    record { next = next; items = w.items; depth = w.depth - 1; stand = w.stand; more = more }

-- what follows a call's argument
abbrev pub call_words : Manner → Lengths → Stand → ℕ → Name → Words
call_words Emits l w number n = ready_words (code_word emission_number (length n) 0 0 ∷ n)
call_words (Computes op) l w number n = ready_words (computation_word (operation_meant op) ∷ [])
call_words Replaces l w number n =
    rest_word l w ∷ ready_words ((tail_call_number + operand * number) ∷ actions_end ∷ [])
call_words Nests l w number n = ready_words ((call_number + operand * number) ∷ [])

abbrev pub is_stop : Item → Bool
is_stop Byte = false
is_stop Symbol = false
is_stop Part = false
is_stop Call = false
is_stop Pass = false
is_stop Close = false
is_stop Unclosed = false
is_stop Stop = true

-- the call that ends is the last item outermost: none is open round it, and no item follows
abbrev pub last_call : ℕ → List ℕ → ℕ → Bool
last_call depth ws item_actions = pick (eqb depth 0) (is_stop (item_at ws 0 item_actions)) false

abbrev pub manner_by : Calling → Bool → Manner
manner_by Emission last = Emits
manner_by (Angles op) last = Computes op
manner_by Function last = pick last Replaces Nests

-- how the innermost open call is done, where the tape goes on at `next`
abbrev pub manner_now : List ℕ → List ℕ → ℕ → Walk → Manner
manner_now ws calls next w =
    manner_by (calling_in (calling_of (head_name ws (get_or calls (w.depth - 1) 0))))
    (last_call (w.depth - 1) (drop next ws) w.items)

abbrev pub continues : Manner → Bool
continues Emits = true
continues (Computes op) = true
continues Replaces = false
continues Nests = true

-- what follows the argument of the innermost open call
abbrev pub ending_words : List ℕ → List ℕ → Lengths → List ℕ → ℕ → Walk → Words
ending_words ws heads l calls next w =
    let n = head_name ws (get_or calls (w.depth - 1) 0) in
    call_words (manner_now ws calls next w) l w.stand (number_among 0 (head_names ws heads) n) n

-- past the innermost open call where its argument ends; nothing more is to come where it is a tail call
abbrev pub ending_by : Item → List ℕ → List ℕ → Walk → Walk
ending_by Byte ws calls w = w
ending_by Symbol ws calls w = w
ending_by Part ws calls w = w
ending_by Call ws calls w = w
ending_by Pass ws calls w = w
ending_by Close ws calls w = call_done w (w.next + 1) (continues (manner_now ws calls (w.next + 1) w))
ending_by Unclosed ws calls w = call_done w w.next (continues (manner_now ws calls w.next w))
ending_by Stop ws calls w = w

abbrev pub past_ending : List ℕ → List ℕ → Walk → Walk
past_ending ws calls w = ending_by (item_at (drop w.next ws) w.depth w.items) ws calls w

-- past the variable where a walk stands, with nothing written for it
abbrev pub past_name : List ℕ → Walk → Walk
past_name ws w = item_done w (length (head_name ws w.next)) w.depth w.stand

-- the e-variable where a walk stands is the pattern's first
abbrev pub is_first : List ℕ → Pattern → Walk → Bool
is_first ws m w = same_bytes (head_name ws w.next) (head_name ws m.variable)

-- it stays on in: it ends a tail call's argument, and the pattern
abbrev pub stays : List ℕ → List ℕ → Pattern → Walk → Bool
stays ws calls m w =
    both (not (past_ending ws calls (past_name ws w)).more) (ends_by m.lengths.parts m.lengths (is_first ws m w))

-- nothing more is to be written
abbrev pub all_done : Walk → Walk
all_done w = record { next = w.next; items = w.items; depth = w.depth; stand = w.stand; more = false }

-- THEIR CONTRACT

-- the heads are those of a table's functions, the symbols' names those of a sentence's different s-variables, and the
-- measure that of its pattern's shape
pub record Means (ws heads : List ℕ) (symbols : List SVariable) (m : Pattern) (t : Table) (s : Shape)
    (ss : List (Named Site)) : Type 0 where
  pub functions : names_of t ≡ head_names ws heads
  pub known : map (λ x. x.name) ss ≡ map (λ x. symbol_name ws x) symbols
  pub lengths : m.lengths ≡ lengths_of s
  pub variable : head_name ws m.variable ≡ first_part_or (head_name ws m.variable) s

pub record InItems (ws calls : List ℕ) (w : Walk) : Type 0 where
  pub room : length calls ≡ max_nesting
  pub opened : (k : ℕ) → k < w.depth → get_or calls k 0 < length ws
  pub depth : w.depth ≤ max_nesting
  pub items : w.items ≤ max_items
  pub next : w.next ≤ length ws + 1

-- a call is open, and where the innermost one begins is known
pub record Innermost (ws calls : List ℕ) (w : Walk) : Type 0 where
  pub deep : 1 ≤ w.depth
  pub room : w.depth ≤ length calls
  pub known : get_or calls (w.depth - 1) 0 < length ws

-- the most words that a call's end takes: UseSeq, Select, and an emission with its name
abbrev pub call_end_words : ℕ
call_end_words = 2 + operand

-- the most that an item takes, with the end of the call that it may open; and what follows the items: a Go over the
-- rest of the field, and the actions' end
abbrev pub item_words : ℕ
item_words = 1 + call_end_words

abbrev pub last_words : ℕ
last_words = 2

-- the most words of an expression
abbrev pub expression_words : ℕ
expression_words = item_words * max_items + last_words

-- what is left to be done
abbrev pub to_go : List ℕ → Walk → ℕ
to_go ws w = 2 * (length ws + 1 - w.next) + w.depth + flag w.more

-- a step keeps what the actions come to, and goes on
pub record ItemsOn (ws heads : List ℕ) (symbols : List SVariable) (m : Pattern) (calls : List ℕ)
    (code : CodeWriter) (w : Walk) (calls' : List ℕ) (code' : CodeWriter) (r : Walk) : Type 0 where
  pub same : (t : Table) (s : Shape) (ss : List (Named Site)) → Means ws heads symbols m t s ss
      → StillToWrite code (remaining true t s ss ws calls w) code' (remaining r.more t s ss ws calls' r)
  pub rest : rest_now r.more ws r ≡ rest_now true ws w
  pub within : InItems ws calls' r
  pub ahead : to_go ws r < 2 * (length ws + 1 - w.next) + w.depth + 1
  pub grown : code'.at + call_end_words * r.depth + item_words * w.items
      ≤ code.at + call_end_words * w.depth + item_words * r.items + last_words * (1 - flag r.more)

-- the whole expression is written
pub record ItemsAll (ws heads : List ℕ) (symbols : List SVariable) (m : Pattern) (start : ℕ)
    (code code' : CodeWriter) (r : Walk) : Type 0 where
  pub wrote : (t : Table) (s : Shape) (ss : List (Named Site)) → Means ws heads symbols m t s ss
      → Written code (pack_actions (actions_of t s ss (levels_in 0 0 0 (drop start ws)).current)) code'
  pub rest : drop r.next ws ≡ (levels_in 0 0 0 (drop start ws)).rest
  pub next : r.next ≤ length ws + 1
  pub grown : code'.at ≤ code.at + expression_words
