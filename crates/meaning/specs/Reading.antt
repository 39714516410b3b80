-- Reading a table text: its tree, or number and place of its fault. Reading stops at the first token at which a fault
-- is known, and "for 2 to 7 the leftmost token decides, then the lowest number": the tests at a token stand in the
-- order of their numbers.
use Rattle.std.specs.Prelude.{ℕ, zero, suc, ◌+◌, ◌-◌, Bool, true, false, not, List, [], ◌∷◌, ◌++◌, leb, ltb, eqb, length}
use Rattle.std.proofs.Math.Option.{Option, none, some}
use Rattle.meaning.specs.Choice.{Bytes, Name, pick, both, or_else, is_some, same_bytes}
use Rattle.meaning.specs.Classes.{Class}
use Rattle.meaning.specs.Tree.{Element, letter, part, Subject, of_symbol, of_part, Condition, Expression, end}
use Rattle.meaning.specs.Tree.{then_character, then_symbol, then_part, then_call, Sentence, Function, Table}
use Rattle.meaning.specs.Names.{is_predicate, is_reserved, predicate_of, is_known}
use Rattle.meaning.specs.Answers.{table_too_long, malformed_token, not_allowed_here, over_limit, wrong_name}
use Rattle.meaning.specs.Answers.{wrong_pattern_variable, wrong_later_variable, undeclared_name}
use Rattle.meaning.specs.Allowed.{max_table, max_functions, max_sentences, max_name, max_identifier, max_letters}
use Rattle.meaning.specs.Allowed.{max_symbols, max_conditions, max_items, max_nesting, member, added, symbols_of}
use Rattle.meaning.specs.Allowed.{parts_of, letters_in, coming_after, names_of}
use Rattle.meaning.specs.Tokens.{Token, function_name, word, quoted, sign, text_end, malformed, Placed, tokens}
use Rattle.meaning.specs.Tokens.{left_brace, right_brace, semicolon, comma, colon, equals, less_than, greater_than}
pub use Rattle.meaning.specs.Tokens.{is_sign, is_text_end, name_of, Item, characters, symbol_item, part_item, no_item}
pub use Rattle.meaning.specs.Tokens.{variable_of, item_of, is_item, begins}
use Rattle.meaning.specs.Grammar.{truth_byte, truth_length, then_characters}
pub use Rattle.meaning.specs.Grammar.{elements_of}

-- what every reader comes to: the number and place of a fault, or what was read and the tokens after it
pub data Parsed (A : Type 0) : Type 0 where
  stopped : ℕ → ℕ → Parsed A
  parsed : A → List Placed → Parsed A

-- what comes after, where the first is read
abbrev pub follow : {A B : Type 0} → Parsed A → (A → List Placed → Parsed B) → Parsed B
follow (stopped number place) next = stopped number place
follow (parsed value rest) next = next value rest

-- Tokens end with one that no reader passes, so none comes to the end of their list (proved in proofs/reading).
abbrev pub cut_short : {A : Type 0} → Parsed A
cut_short = stopped 0 0

-- FAULTS

-- a token that isn't well formed, or "not allowed here by the grammar"
abbrev pub fault_of : Token → ℕ
fault_of (function_name n) = not_allowed_here
fault_of (word w) = not_allowed_here
fault_of (quoted text) = not_allowed_here
fault_of (sign b) = not_allowed_here
fault_of text_end = not_allowed_here
fault_of malformed = malformed_token

abbrev pub refuse : {A : Type 0} → Placed → Parsed A
refuse t = stopped (fault_of t.token) t.place

-- what follows where the token is one that may stand here
abbrev pub whether : {A : Type 0} → Bool → Placed → Parsed A → Parsed A
whether true t later = later
whether false t later = refuse t

-- what follows where the token has no fault, which is number 0
abbrev pub where_faultless : {A : Type 0} → ℕ → Placed → Parsed A → Parsed A
where_faultless zero t later = later
where_faultless (suc number) t later = stopped (suc number) t.place

-- the number of the first test that fails, or 0
abbrev pub fault_unless : Bool → ℕ → ℕ → ℕ
fault_unless true number later = later
fault_unless false number later = number

-- SINGLE TOKENS

-- a byte that stands for itself
abbrev pub pass : {A : Type 0} → ℕ → List Placed → (List Placed → Parsed A) → Parsed A
pass b [] next = cut_short
pass b (t ∷ ts) next = let later = next ts in whether (is_sign b t.token) t later

abbrev pub name_on : {A : Type 0} → Option Name → (Name → ℕ) → Placed → (Name → Parsed A) → Parsed A
name_on none fault t next = refuse t
name_on (some n) fault t next = let later = next n in where_faultless (fault n) t later

-- a function's name without a fault, with its place
abbrev pub pass_name : {A : Type 0} → (Name → ℕ) → List Placed → (ℕ → Name → List Placed → Parsed A) → Parsed A
pass_name fault [] next = cut_short
pass_name fault (t ∷ ts) next = name_on (name_of t.token) fault t (λ n. next t.place n ts)

-- "name 24 bytes"
abbrev pub length_fault : Name → ℕ → ℕ
length_fault n later = fault_unless (leb (length n) max_name) over_limit later

-- THE PATTERN

unfoldable pub ends_in_part : List Element → Bool
ends_in_part [] = false
ends_in_part (letter l ∷ es) = ends_in_part es
ends_in_part (part x ∷ []) = true
ends_in_part (part x ∷ e ∷ es) = ends_in_part (e ∷ es)

-- "identifier after s or e 8; pattern 64 characters and s-variables, of which 16 different", "a third is refused with
-- 3", "s and e share an identifier, e twice, nothing between two e"
abbrev pub pattern_fault : List Element → Item → ℕ
pattern_fault before (characters text) = fault_unless (leb (letters_in before + length text) max_letters) over_limit 0
pattern_fault before (symbol_item x) =
    fault_unless
    (both (leb (length x) max_identifier)
    (both (leb (letters_in before + 1) max_letters)
    (leb (length (added x (symbols_of before))) max_symbols)))
    over_limit
    (fault_unless (not (member x (parts_of before))) wrong_pattern_variable 0)
pattern_fault before (part_item x) =
    fault_unless (ltb (length (parts_of before)) 2) not_allowed_here
    (fault_unless (leb (length x) max_identifier) over_limit
    (fault_unless (both (not (member x (symbols_of before ++ parts_of before))) (not (ends_in_part before)))
    wrong_pattern_variable 0))
pattern_fault before no_item = 0

-- a pattern, with its elements before these tokens
unfoldable pub parse_pattern : List Element → List Placed → Parsed (List Element)
parse_pattern before [] = cut_short
parse_pattern before (t ∷ ts) =
    let item = item_of t.token in
    let later = parse_pattern (before ++ elements_of item) ts in
    pick (is_item item) (where_faultless (pattern_fault before item) t later) (parsed before (t ∷ ts))

-- CONDITIONS

-- "condition on no predicate" is refused with 5
abbrev pub with_class : {A : Type 0} → Option Class → ℕ → (Class → Parsed A) → Parsed A
with_class none place next = stopped wrong_name place
with_class (some class) place next = next class

-- of the pattern's s-variables or e-variables, one is named; "one that is not in the pattern gets 7" (T-03)
abbrev pub subject_fault : List Name → Name → ℕ
subject_fault names x =
    fault_unless (leb (length x) max_identifier) over_limit (fault_unless (member x names) wrong_later_variable 0)

abbrev pub subject_on : {A : Type 0} → Item → List Name → List Name → Placed → (Subject → Parsed A) → Parsed A
subject_on (characters text) symbols parts t next = refuse t
subject_on (symbol_item x) symbols parts t next =
    let later = next (of_symbol x) in where_faultless (subject_fault symbols x) t later
subject_on (part_item x) symbols parts t next =
    let later = next (of_part x) in where_faultless (subject_fault parts x) t later
subject_on no_item symbols parts t next = refuse t

abbrev pub pass_subject
    : {A : Type 0} → List Name → List Name → List Placed → (Subject → List Placed → Parsed A) → Parsed A
pass_subject symbols parts [] next = cut_short
pass_subject symbols parts (t ∷ ts) next = subject_on (item_of t.token) symbols parts t (λ v. next v ts)

abbrev pub truth_in : Bytes → Option Bool
truth_in text =
    pick (same_bytes text (truth_byte true ∷ [])) (some true)
    (pick (same_bytes text (truth_byte false ∷ [])) (some false) none)

-- "the closing string is exactly those three bytes, and any other well formed string there is refused with 3"
abbrev pub truth_of : Token → Bool → Option Bool
truth_of (function_name n) three = none
truth_of (word w) three = none
truth_of (quoted text) three = pick three (truth_in text) none
truth_of (sign b) three = none
truth_of text_end three = none
truth_of malformed three = none

abbrev pub truth_on : {A : Type 0} → Option Bool → Placed → (Bool → Parsed A) → Parsed A
truth_on none t next = refuse t
truth_on (some truth) t next = next truth

abbrev pub pass_truth : {A : Type 0} → List Placed → (Bool → List Placed → Parsed A) → Parsed A
pass_truth [] next = cut_short
pass_truth (t ∷ ts) next =
    truth_on (truth_of t.token (eqb t.past (t.place + truth_length))) t (λ truth. next truth ts)

-- "`, <Predicate sX>: 'T'` or `'F'`, on an s-variable of the pattern", or on an e-variable of it, after its `,`
unfoldable pub parse_condition : List Name → List Name → List Placed → Parsed Condition
parse_condition symbols parts ts =
    pass less_than ts λ ts₁.
    pass_name (λ n. length_fault n 0) ts₁ λ place n ts₂.
    with_class (predicate_of n) place λ class.
    pass_subject symbols parts ts₂ λ v ts₃.
    pass greater_than ts₃ λ ts₄.
    pass colon ts₄ λ ts₅.
    pass_truth ts₅ λ truth rest.
    parsed (record { predicate = class; subject = v; expected = truth }) rest

-- a condition is read where a `,` stands
abbrev pub at_comma : List Placed → (Placed → List Placed → Parsed (List Condition)) → Parsed (List Condition)
at_comma [] next = cut_short
at_comma (t ∷ ts) next = let later = next t ts in pick (is_sign comma t.token) later (parsed [] (t ∷ ts))

-- conditions, of which so many may still come; "A sentence or condition over its limit is refused at its first token (a
-- condition's is `,`)"
unfoldable pub parse_conditions : ℕ → List Name → List Name → List Placed → Parsed (List Condition)
parse_conditions zero symbols parts ts = at_comma ts λ t rest. stopped over_limit t.place
parse_conditions (suc left) symbols parts ts =
    at_comma ts λ t ts₁.
    follow (parse_condition symbols parts ts₁) λ c ts₂.
    follow (parse_conditions left symbols parts ts₂) λ cs rest.
    parsed (c ∷ cs) rest

-- THE EXPRESSION

-- how far an expression is: its items so far, those inside calls included, and the e-variables that may still come
pub record Progress : Type 0 where
  pub items : ℕ
  pub coming : List Name

-- an expression with the progress after it
pub record Items : Type 0 where
  pub expression : Expression
  pub progress : Progress

-- a call with the place of its name and the progress after it
pub record Called : Type 0 where
  pub place : ℕ
  pub name : Name
  pub argument : Expression
  pub progress : Progress

-- how many items: "character, variable, call"
abbrev pub item_count : Item → ℕ
item_count (characters text) = length text
item_count (symbol_item x) = 1
item_count (part_item x) = 1
item_count no_item = 0

abbrev pub coming_or : Option (List Name) → List Name
coming_or none = []
coming_or (some coming) = coming

abbrev pub coming_past : Item → List Name → List Name
coming_past (characters text) coming = coming
coming_past (symbol_item x) coming = coming
coming_past (part_item x) coming = coming_or (coming_after x coming)
coming_past no_item coming = coming

abbrev pub past_item : Item → Progress → Progress
past_item item so = record { items = so.items + item_count item; coming = coming_past item so.coming }

-- a call is an item itself
abbrev pub past_call : Progress → Progress
past_call so = record { items = so.items + 1; coming = so.coming }

-- "expression 128 items ..., those inside calls included", "not in the pattern, or e repeated or out of order"
abbrev pub item_fault : List Name → Progress → Item → ℕ
item_fault symbols so (characters text) = fault_unless (leb (so.items + length text) max_items) over_limit 0
item_fault symbols so (symbol_item x) =
    fault_unless (both (leb (length x) max_identifier) (leb (so.items + 1) max_items)) over_limit
    (fault_unless (member x symbols) wrong_later_variable 0)
item_fault symbols so (part_item x) =
    fault_unless (both (leb (length x) max_identifier) (leb (so.items + 1) max_items)) over_limit
    (fault_unless (is_some (coming_after x so.coming)) wrong_later_variable 0)
item_fault symbols so no_item = 0

-- "at most 16 calls one inside another"; "a call at its `<`"
abbrev pub call_fault : ℕ → Progress → ℕ
call_fault depth so = fault_unless (both (ltb depth max_nesting) (leb (so.items + 1) max_items)) over_limit 0

-- "predicate called" is refused with 5
abbrev pub called_fault : Name → ℕ
called_fault n = length_fault n (fault_unless (not (is_predicate n)) wrong_name 0)

abbrev pub then_item : Item → Expression → Expression
then_item (characters text) e = then_characters text e
then_item (symbol_item x) e = then_symbol x e
then_item (part_item x) e = then_part x e
then_item no_item e = e

abbrev pub with_first : (Expression → Expression) → Parsed Items → Parsed Items
with_first first (stopped number place) = stopped number place
with_first first (parsed i rest) = parsed (record { expression = first i.expression; progress = i.progress }) rest

-- A call from its `<` on. It takes the reader of its argument, which is fed how many calls stand round it, the progress
-- and the tokens.
abbrev pub parse_call : (ℕ → Progress → List Placed → Parsed Items) → ℕ → Progress → Placed → List Placed → Parsed Called
parse_call argument depth so t ts =
    let later : Parsed Called =
    pass_name called_fault ts λ place n ts₁.
    follow (argument (suc depth) (past_call so) ts₁) λ given ts₂.
    pass greater_than ts₂ λ rest.
    parsed (record { place = place; name = n; argument = given.expression; progress = given.progress }) rest
    in
    where_faultless (call_fault depth so) t later

-- an expression from its first token on, fed the reader of what comes after an item and inside a call
abbrev pub parse_expression_from
    : (ℕ → Progress → List Placed → Parsed Items) → List Name → ℕ → Progress → Placed → List Placed → Parsed Items
parse_expression_from next symbols depth so t ts =
    let item = item_of t.token in
    let after_item = with_first (then_item item) (next depth (past_item item so) ts) in
    let after_call =
    follow (parse_call next depth so t ts) λ c rest.
    with_first (then_call c.place c.name c.argument) (next depth c.progress rest)
    in
    pick (is_item item) (where_faultless (item_fault symbols so item) t after_item)
    (pick (is_sign less_than t.token) after_call (parsed (record { expression = end; progress = so }) (t ∷ ts)))

-- An expression that so many calls stand round. Each step eats a token, so a bound of the number of tokens is never
-- reached (proved in proofs/reading).
unfoldable pub parse_expression : ℕ → List Name → ℕ → Progress → List Placed → Parsed Items
parse_expression zero symbols depth so ts = cut_short
parse_expression (suc bound) symbols depth so [] = cut_short
parse_expression (suc bound) symbols depth so (t ∷ ts) =
    parse_expression_from (parse_expression bound symbols) symbols depth so t ts

-- SENTENCES AND FUNCTIONS

-- "Sentence: pattern, conditions, `=`, expression"
unfoldable pub parse_sentence : List Placed → Parsed Sentence
parse_sentence ts =
    follow (parse_pattern [] ts) λ p ts₁.
    follow (parse_conditions max_conditions (symbols_of p) (parts_of p) ts₁) λ cs ts₂.
    pass equals ts₂ λ ts₃.
    follow (parse_expression (length ts₃) (symbols_of p) 0 (record { items = 0; coming = parts_of p }) ts₃) λ e rest.
    parsed (record { pattern = p; conditions = cs; expression = e.expression }) rest

-- a sentence is read where one can begin
abbrev pub at_sentence : List Placed → (Placed → Parsed (List Sentence)) → Parsed (List Sentence)
at_sentence [] next = cut_short
at_sentence (t ∷ ts) next = let later = next t in whether (begins t.token) t later

-- after a `;` comes `}` or another sentence
abbrev pub after_semicolon : (List Placed → Parsed (List Sentence)) → Sentence → List Placed → Parsed (List Sentence)
after_semicolon more s [] = cut_short
after_semicolon more s (t ∷ ts) =
    let another = follow (more (t ∷ ts)) λ ss rest. parsed (s ∷ ss) rest in
    pick (is_sign right_brace t.token) (parsed (s ∷ []) ts) another

-- after a sentence comes `}` or `;`
abbrev pub after_sentence : (List Placed → Parsed (List Sentence)) → Sentence → List Placed → Parsed (List Sentence)
after_sentence more s [] = cut_short
after_sentence more s (t ∷ ts) =
    let another = after_semicolon more s ts in
    pick (is_sign right_brace t.token) (parsed (s ∷ []) ts) (whether (is_sign semicolon t.token) t another)

-- The sentences of a function from its `{` to its `}`, of which so many may still come: "sentences parted by `;`,
-- perhaps one more `;`, `}`"; "a sentence ... over its limit is refused at its first token".
unfoldable pub parse_sentences : ℕ → List Placed → Parsed (List Sentence)
parse_sentences zero ts = at_sentence ts λ t. stopped over_limit t.place
parse_sentences (suc left) ts =
    at_sentence ts λ t.
    follow (parse_sentence ts) λ s ts₁.
    after_sentence (parse_sentences left) s ts₁

-- "perhaps `;`"
abbrev pub pass_spare : List Placed → List Placed
pass_spare [] = []
pass_spare (t ∷ ts) = pick (is_sign semicolon t.token) ts (t ∷ ts)

-- "declared twice, reserved" are refused with 5
abbrev pub declared_fault : Table → Name → ℕ
declared_fault before n =
    length_fault n (fault_unless (both (not (is_reserved n)) (not (member n (names_of before)))) wrong_name 0)

-- a function from its name to its `}`, with a fault of its name
abbrev pub parse_function : (Name → ℕ) → ℕ → List Placed → Parsed Function
parse_function fault sentences_left ts =
    pass_name fault ts λ place n ts₁.
    pass left_brace ts₁ λ ts₂.
    follow (parse_sentences sentences_left ts₂) λ ss rest.
    parsed (record { name = n; sentences = ss }) rest

-- a function is read unless the text ends
abbrev pub at_function : Table → List Placed → Parsed Table → Parsed Table
at_function before [] later = cut_short
at_function before (t ∷ ts) later = pick (is_text_end t.token) (parsed before ts) later

-- The functions, after these and with so many functions and sentences that may still come; "a function at its name".
unfoldable pub parse_functions : ℕ → ℕ → Table → List Placed → Parsed Table
parse_functions zero sentences_left before ts =
    let later = follow (parse_function (λ n. over_limit) sentences_left ts) λ f rest. cut_short in
    at_function before ts later
parse_functions (suc left) sentences_left before ts =
    let later =
    follow (parse_function (declared_fault before) sentences_left ts) λ f rest.
    parse_functions left (sentences_left - length f.sentences) (before ++ f ∷ []) (pass_spare rest)
    in
    at_function before ts later

-- THE TABLE

-- a text's functions and the numbers 1 to 7, with so many functions and sentences before them
abbrev pub read_functions : ℕ → ℕ → Bytes → Parsed Table
read_functions functions_before sentences_before text =
    let later = parse_functions (max_functions - functions_before) (max_sentences - sentences_before) [] (tokens text) in
    pick (leb (length text) max_table) later (stopped table_too_long 0)

-- the first called name that is neither built in nor declared, by its place
unfoldable pub unknown_call : Table → Expression → Option ℕ
unknown_call t end = none
unknown_call t (then_character c e) = unknown_call t e
unknown_call t (then_symbol x e) = unknown_call t e
unknown_call t (then_part x e) = unknown_call t e
unknown_call t (then_call place n a e) =
    pick (is_known t n) (or_else (unknown_call t a) (unknown_call t e)) (some place)

unfoldable pub unknown_in_sentences : Table → List Sentence → Option ℕ
unknown_in_sentences t [] = none
unknown_in_sentences t (s ∷ ss) = or_else (unknown_call t s.expression) (unknown_in_sentences t ss)

unfoldable pub unknown_in : Table → List Function → Option ℕ
unknown_in t [] = none
unknown_in t (f ∷ fs) = or_else (unknown_in_sentences t f.sentences) (unknown_in t fs)

-- what reading a text comes to: its tree, or number and place of its fault
pub data Read : Type 0 where
  accepted : Table → Read
  refused : ℕ → ℕ → Read

abbrev pub known : Option ℕ → Table → Read
known none t = accepted t
known (some place) t = refused undeclared_name place

-- after reading, the "first called name that is undeclared"
abbrev pub verdict : Parsed Table → Read
verdict (stopped number place) = refused number place
verdict (parsed t rest) = known (unknown_in t t) t

abbrev pub read : Bytes → Read
read text = verdict (read_functions 0 0 text)
