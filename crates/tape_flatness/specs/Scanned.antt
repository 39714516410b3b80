-- Which of a tape's words open a declared call that is no tail call, for any words at all: 02, T-06.
use Rattle.std.specs.Prelude.{ℕ, zero, suc, ◌≤◌, ◌<◌, min, ◌≡◌, Bool, not, true, false, List, [], ◌∷◌, eqb, leb, ltb, length, drop, get_or}
use Rattle.std.specs.Prelude.{Option, None, Some}
use Rattle.std.proofs.Math.Option.{Option as Choice, none, some}
use Rattle.meaning.specs.Choice.{pick, either}
use Rattle.meaning.specs.Names.{is_built_in}
use Rattle.tape_layout.specs.Tape.{tape_word, condition_kind, close_kind, call_kind}
use Rattle.tape_words.specs.Words.{carried, called_place, name_in}

-- a place that may be there, as the code says it
abbrev pub placed : Choice ℕ → Option ℕ
placed none = None
placed (some place) = Some place

-- a call is told by one more than the place of its name, none by 0
abbrev pub place_of : ℕ → Option ℕ
place_of zero = None
place_of (suc place) = Some place

-- the one of two calls that stands further left
abbrev pub earlier : ℕ → ℕ → ℕ
earlier zero q = q
earlier (suc a) zero = suc a
earlier (suc a) (suc b) = suc (min a b)

abbrev pub only_if : Bool → ℕ → ℕ
only_if true call = call
only_if false call = 0

-- so many words are joined at once
abbrev pub joined_at_once : ℕ
joined_at_once = 8

-- an argument of fewer words is short
abbrev pub short_argument : ℕ
short_argument = 16

-- WORDS

abbrev pub opens_call : ℕ → Bool
opens_call w = leb (tape_word call_kind 0) w

abbrev pub closes_call : ℕ → Bool
closes_call w = eqb w (tape_word close_kind 0)

-- a character, a variable or a call: the kinds before that of a condition, and the last
abbrev pub is_item_word : ℕ → Bool
is_item_word w = either (ltb w (tape_word condition_kind 0)) (opens_call w)

abbrev pub item_follows : List ℕ → Bool
item_follows [] = false
item_follows (w ∷ ws) = is_item_word w

-- the call that the first word opens, unless it needs no declaration: every other is declared
abbrev pub declared_call : List ℕ → ℕ
declared_call [] = 0
declared_call (w ∷ ws) = only_if (not (is_built_in (name_in (w ∷ ws)))) (suc (called_place w))

-- how many words after it are that call's name
abbrev pub called_size : ℕ → ℕ
called_size w = pick (opens_call w) (carried w) 0

-- from one place to another every word is below a bound
pub record Below (bound : ℕ) (ws : List ℕ) (from past : ℕ) : Type 0 where
  pub onward : from ≤ past
  pub inside : past ≤ length ws
  pub below : (k : ℕ) → from ≤ k → k < past → get_or ws k 0 < bound

-- and none opens a call that stands further left than one
abbrev pub NoneFurtherLeft : ℕ → List ℕ → ℕ → ℕ → Type 0
NoneFurtherLeft call ws from past =
    (k : ℕ) → from ≤ k → k < past → opens_call (get_or ws k 0) ≡ true → call ≤ suc (called_place (get_or ws k 0))

-- THE SCAN

-- what is known of the words so far: the leftmost declared call that is no tail call; in a call also how many more are
-- open, and the outermost one, if it is declared
pub data CallScan : Type 0 where
  out_of_calls : (leftmost : ℕ) → CallScan
  in_call : (more outermost leftmost : ℕ) → CallScan

abbrev pub leftmost_by : CallScan → ℕ
leftmost_by (out_of_calls leftmost) = leftmost
leftmost_by (in_call more outermost leftmost) = leftmost

-- a call is opened: inside another it is no tail call; an outermost one is kept until it closes
abbrev pub call_opened : ℕ → CallScan → CallScan
call_opened call (out_of_calls leftmost) = in_call 0 call leftmost
call_opened call (in_call more outermost leftmost) = in_call (suc more) outermost (earlier call leftmost)

-- a call is closed: where an item follows it, the outermost one is no tail call
abbrev pub call_closed : Bool → CallScan → CallScan
call_closed followed (out_of_calls leftmost) = out_of_calls leftmost
call_closed followed (in_call zero outermost leftmost) = out_of_calls (earlier (only_if followed outermost) leftmost)
call_closed followed (in_call (suc more) outermost leftmost) = in_call more outermost leftmost

abbrev pub passed_word : List ℕ → CallScan → CallScan
passed_word [] s = s
passed_word (w ∷ ws) s =
    pick (opens_call w) (call_opened (declared_call (w ∷ ws)) s)
    (pick (closes_call w) (call_closed (item_follows ws) s) s)

-- the leftmost in the end, where so many words of a name are still to be passed over
unfoldable pub scanned_calls : ℕ → List ℕ → CallScan → ℕ
scanned_calls zero [] s = leftmost_by s
scanned_calls zero (w ∷ ws) s = scanned_calls (called_size w) ws (passed_word (w ∷ ws) s)
scanned_calls (suc name) [] s = leftmost_by s
scanned_calls (suc name) (w ∷ ws) s = scanned_calls name ws s

-- from one place to another stands the argument of an outermost call, whichever that is
abbrev pub ArgumentPassed : List ℕ → ℕ → ℕ → ℕ → ℕ → Type 0
ArgumentPassed ws from leftmost next found =
    (outermost : ℕ) → scanned_calls 0 (drop from ws) (in_call 0 outermost leftmost)
    ≡ scanned_calls 0 (drop next ws) (call_closed (item_follows (drop next ws)) (in_call 0 outermost found))

-- "the place of its name, leftmost"
abbrev pub nested_call : List ℕ → Option ℕ
nested_call ws = place_of (scanned_calls 0 ws (out_of_calls 0))
