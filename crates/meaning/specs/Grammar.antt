-- The published grammar, rule by rule: 000 section 2.1 with 01's 'Table text' for conditions and T-03 for their
-- variables, as relations between tokens and trees. `IsSentence ts s rest` says that the tokens `ts` are a sentence
-- with the tree `s`, and then the tokens `rest`. Limits, name rules and variable rules are in Allowed. Strings of no
-- characters leave nothing in the tree.
use Rattle.std.specs.Prelude.{ℕ, ◌+◌, ◌≡◌, Bool, true, false, List, [], ◌∷◌, ◌++◌, map}
use Rattle.std.proofs.Math.Option.{some}
use Rattle.meaning.specs.Choice.{Bytes, Name}
use Rattle.meaning.specs.Ascii.{small_e, small_s, capital_t, capital_f}
use Rattle.meaning.specs.Classes.{Class}
use Rattle.meaning.specs.Tree.{character, symbol, Element, letter, part, Subject, of_symbol, of_part, Condition}
use Rattle.meaning.specs.Tree.{Expression, end, then_character, then_symbol, then_part, then_call, Sentence, Function}
use Rattle.meaning.specs.Tree.{Table}
use Rattle.meaning.specs.Names.{predicate_of}
use Rattle.meaning.specs.Tokens.{Token, function_name, word, quoted, sign, text_end, Placed, Item, characters}
use Rattle.meaning.specs.Tokens.{symbol_item, part_item, no_item}
use Rattle.meaning.specs.Tokens.{left_brace, right_brace, semicolon, comma, colon, equals, less_than, greater_than}

abbrev pub standing : Token → ℕ → ℕ → Placed
standing token place past = record { token = token; place = place; past = past }

-- TERMINALS

-- "s-Переменная = "s" Идентификатор", "е-Переменная = "e" Идентификатор", "Идентификатор = (латинСимвол | цифра)
-- {латинСимвол | цифра}": a word of at least two bytes; that the others are letters and digits is the tokens' rule
abbrev pub symbol_word : ℕ → Bytes → Token
symbol_word b x = word (small_s ∷ b ∷ x)

abbrev pub part_word : ℕ → Bytes → Token
part_word b x = word (small_e ∷ b ∷ x)

-- the closing string of a condition "is exactly those three bytes": 'T' or 'F'
abbrev pub truth_byte : Bool → ℕ
truth_byte true = capital_t
truth_byte false = capital_f

abbrev pub truth_length : ℕ
truth_length = 3

abbrev pub truth_string : Bool → ℕ → Placed
truth_string truth place = standing (quoted (truth_byte truth ∷ [])) place (place + truth_length)

-- PATTERNS

-- the characters of a string in a pattern
abbrev pub characters_of : Bytes → List Element
characters_of text = map (λ c. letter (character c)) text

-- what an item leaves in a pattern
abbrev pub elements_of : Item → List Element
elements_of (characters text) = characters_of text
elements_of (symbol_item x) = letter (symbol x) ∷ []
elements_of (part_item x) = part x ∷ []
elements_of no_item = []

-- "Строка | s-Переменная"
pub data IsLetters : Token → List Element → Type 0 where
  string_letters : {text : Bytes} → IsLetters (quoted text) (characters_of text)
  variable_letter : {b : ℕ} {x : Bytes} → IsLetters (symbol_word b x) (letter (symbol (b ∷ x)) ∷ [])

-- "Шаблон = (Строка | s-Переменная) {Строка | s-Переменная}"
pub data IsTemplate : List Placed → List Element → List Placed → Type 0 where
  letters_alone : {t : Token} {place past : ℕ} {p : List Element} {rest : List Placed}
      → IsLetters t p
      → IsTemplate (standing t place past ∷ rest) p rest
  letters_then : {t : Token} {place past : ℕ} {p q : List Element} {ts rest : List Placed}
      → IsLetters t p
      → IsTemplate ts q rest
      → IsTemplate (standing t place past ∷ ts) (p ++ q) rest

-- "[Шаблон]"
pub data IsTemplateOrNone : List Placed → List Element → List Placed → Type 0 where
  no_template : {ts : List Placed} → IsTemplateOrNone ts [] ts
  some_template : {ts rest : List Placed} {p : List Element} → IsTemplate ts p rest → IsTemplateOrNone ts p rest

-- "Образец = "" | Шаблон | [Шаблон] е-Переменная [Шаблон] | [Шаблон] е-Переменная Шаблон е-Переменная [Шаблон]"
pub data IsPattern : List Placed → List Element → List Placed → Type 0 where
  no_part : {ts rest : List Placed} {p : List Element} → IsTemplateOrNone ts p rest → IsPattern ts p rest
  one_part : {ts ts₁ rest : List Placed} {p q : List Element} {b place past : ℕ} {x : Bytes}
      → IsTemplateOrNone ts p (standing (part_word b x) place past ∷ ts₁)
      → IsTemplateOrNone ts₁ q rest
      → IsPattern ts (p ++ part (b ∷ x) ∷ q) rest
  two_parts : {ts ts₁ ts₂ rest : List Placed} {p q r : List Element} {b place past c place₁ past₁ : ℕ} {x y : Bytes}
      → IsTemplateOrNone ts p (standing (part_word b x) place past ∷ ts₁)
      → IsTemplate ts₁ q (standing (part_word c y) place₁ past₁ ∷ ts₂)
      → IsTemplateOrNone ts₂ r rest
      → IsPattern ts (p ++ part (b ∷ x) ∷ (q ++ part (c ∷ y) ∷ r)) rest

-- CONDITIONS

-- "(s-Переменная | е-Переменная)"
pub data IsSubject : Token → Subject → Type 0 where
  symbol_subject : {b : ℕ} {x : Bytes} → IsSubject (symbol_word b x) (of_symbol (b ∷ x))
  part_subject : {b : ℕ} {x : Bytes} → IsSubject (part_word b x) (of_part (b ∷ x))

-- "Условие = "<" ИмяФункции (s-Переменная | е-Переменная) ">" ":" ("T" | "F")", where 01 has: "`<Predicate sX>: 'T'` or
-- `'F'`"
pub data IsCondition : List Placed → Condition → List Placed → Type 0 where
  is_condition : {n : Name} {class : Class} {t : Token} {v : Subject} {truth : Bool} {rest : List Placed}
      → {at₁ past₁ at₂ past₂ at₃ past₃ at₄ past₄ at₅ past₅ at₆ : ℕ}
      → predicate_of n ≡ some class
      → IsSubject t v
      → IsCondition
      (standing (sign less_than) at₁ past₁
      ∷ standing (function_name n) at₂ past₂
      ∷ standing t at₃ past₃
      ∷ standing (sign greater_than) at₄ past₄
      ∷ standing (sign colon) at₅ past₅
      ∷ truth_string truth at₆
      ∷ rest)
      (record { predicate = class; subject = v; expected = truth })
      rest

-- "{"," Условие}"
pub data IsConditions : List Placed → List Condition → List Placed → Type 0 where
  no_conditions : {ts : List Placed} → IsConditions ts [] ts
  condition_then : {ts ts₁ rest : List Placed} {place past : ℕ} {c : Condition} {cs : List Condition}
      → IsCondition ts c ts₁
      → IsConditions ts₁ cs rest
      → IsConditions (standing (sign comma) place past ∷ ts) (c ∷ cs) rest

-- EXPRESSIONS

-- the characters of a string in an expression
unfoldable pub then_characters : Bytes → Expression → Expression
then_characters [] e = e
then_characters (c ∷ text) e = then_character c (then_characters text e)

-- "Выражение = {Строка | s-Переменная | е-Переменная | ВызовФункции}" and "ВызовФункции = "<" ИмяФункции Выражение
-- ">"": a call has the place of its name
pub data IsExpression : List Placed → Expression → List Placed → Type 0 where
  no_items : {ts : List Placed} → IsExpression ts end ts
  string_then : {ts rest : List Placed} {place past : ℕ} {text : Bytes} {e : Expression}
      → IsExpression ts e rest
      → IsExpression (standing (quoted text) place past ∷ ts) (then_characters text e) rest
  symbol_then : {ts rest : List Placed} {place past b : ℕ} {x : Bytes} {e : Expression}
      → IsExpression ts e rest
      → IsExpression (standing (symbol_word b x) place past ∷ ts) (then_symbol (b ∷ x) e) rest
  part_then : {ts rest : List Placed} {place past b : ℕ} {x : Bytes} {e : Expression}
      → IsExpression ts e rest
      → IsExpression (standing (part_word b x) place past ∷ ts) (then_part (b ∷ x) e) rest
  call_then : {ts ts₁ rest : List Placed} {at₁ past₁ at₂ past₂ at₃ past₃ : ℕ} {n : Name} {a e : Expression}
      → IsExpression ts a (standing (sign greater_than) at₃ past₃ ∷ ts₁)
      → IsExpression ts₁ e rest
      → IsExpression
      (standing (sign less_than) at₁ past₁ ∷ standing (function_name n) at₂ past₂ ∷ ts) (then_call at₂ n a e) rest

-- SENTENCES, FUNCTIONS, THE PROGRAM

-- "Предложение = Образец {"," Условие} "=" Выражение"
pub data IsSentence : List Placed → Sentence → List Placed → Type 0 where
  is_sentence : {ts ts₁ ts₂ rest : List Placed} {place past : ℕ} {p : List Element} {cs : List Condition}
      {e : Expression}
      → IsPattern ts p ts₁
      → IsConditions ts₁ cs (standing (sign equals) place past ∷ ts₂)
      → IsExpression ts₂ e rest
      → IsSentence ts (record { pattern = p; conditions = cs; expression = e }) rest

-- "Предложение { ";" Предложение } [";"] "}""
pub data IsSentences : List Placed → List Sentence → List Placed → Type 0 where
  last_sentence : {ts rest : List Placed} {place past : ℕ} {s : Sentence}
      → IsSentence ts s (standing (sign right_brace) place past ∷ rest)
      → IsSentences ts (s ∷ []) rest
  last_sentence_parted : {ts rest : List Placed} {place past place₁ past₁ : ℕ} {s : Sentence}
      → IsSentence ts s (standing (sign semicolon) place past ∷ standing (sign right_brace) place₁ past₁ ∷ rest)
      → IsSentences ts (s ∷ []) rest
  sentence_then : {ts ts₁ rest : List Placed} {place past : ℕ} {s : Sentence} {ss : List Sentence}
      → IsSentence ts s (standing (sign semicolon) place past ∷ ts₁)
      → IsSentences ts₁ ss rest
      → IsSentences ts (s ∷ ss) rest

-- "Функция = ИмяФункции "{" Предложение { ";" Предложение } [";"] "}""
pub data IsFunction : List Placed → Function → List Placed → Type 0 where
  is_function : {ts rest : List Placed} {at₁ past₁ at₂ past₂ : ℕ} {n : Name} {ss : List Sentence}
      → IsSentences ts ss rest
      → IsFunction
      (standing (function_name n) at₁ past₁ ∷ standing (sign left_brace) at₂ past₂ ∷ ts)
      (record { name = n; sentences = ss })
      rest

-- "Программа = {Функция [";"]}"
pub data IsProgram : List Placed → Table → Type 0 where
  no_functions : {place past : ℕ} → IsProgram (standing text_end place past ∷ []) []
  function_then : {ts ts₁ : List Placed} {f : Function} {t : Table}
      → IsFunction ts f ts₁
      → IsProgram ts₁ t
      → IsProgram ts (f ∷ t)
  function_parted_then : {ts ts₁ : List Placed} {place past : ℕ} {f : Function} {t : Table}
      → IsFunction ts f (standing (sign semicolon) place past ∷ ts₁)
      → IsProgram ts₁ t
      → IsProgram ts (f ∷ t)
