-- The tokens of listed conditions and sentences derive those conditions and, but for the places of called names, those sentences.
use Prim.Native.Nat.{ℕ, suc, ◌+◌}
use native.Mathlib.Omega.{arith}
use mathlib.Core.Path.{◌≡◌, refl, sym, ap, ◌∙◌}
use mathlib.Core.Bool.{Bool, true, false}
use mathlib.Core.List.{List, [], ◌∷◌, ◌++◌, append_assoc}
use mathlib.Core.Option.{some}
use borrow.Author.Tests.{eqb-true}
use lib.Dec.{eqb, leb}
use lib.ListN.{length}
use Rattle.meaning.specs.Choice.{Bytes, Name, every, same_bytes}
use Rattle.meaning.specs.Classes.{Class, class_name, in_class, alphabetic}
use Rattle.meaning.specs.Tree.{Subject, of_symbol, of_part, Condition, Sentence, unplaced_sentence}
use Rattle.meaning.specs.Names.{class_named, predicate_of}
use Rattle.meaning.specs.Allowed.{word_byte, spelled_name, spelled_identifier, of_pattern, all_of_pattern, symbols_of, parts_of, max_conditions}
use Rattle.meaning.specs.Allowed.{allowed_pattern, allowed_conditions, allowed_sentence}
use Rattle.meaning.specs.Tokens.{inside, naming, word, quoted, sign, lexed, quotation, skip, lex}
use Rattle.meaning.specs.Grammar.{truth_byte, truth_string, IsSubject, symbol_subject, part_subject, is_condition, IsConditions, no_conditions}
use Rattle.meaning.specs.Grammar.{condition_then, IsSentence, is_sentence}
use Rattle.meaning.specs.Listing.{unquoted, pattern_text, subject_text, conditions_text, expression_text, without_blank, sentence_text}
use Rattle.meaning_accepting.proofs.Reading.Basics.{both_left, both_right, impossible}
use Rattle.meaning_accepting.proofs.Reading.Lists.{member-every}
use Rattle.meaning_accepting.proofs.Reading.PatternFacts.{pattern-facts}
use Rattle.meaning_accepting.proofs.Reading.Sentences.{symbols-spelled, parts-spelled}
use Rattle.meaning_accepting.proofs.RoundTrip.Remaining.{remaining, remaining-token}
use Rattle.meaning.proofs.Laws.Words.{by-class}
use Rattle.meaning_accepting.proofs.RoundTrip.Words.{Begins, Parted, blank-passed, after-blank, sign-begins, call-begins, name-begins}
use Rattle.meaning_accepting.proofs.RoundTrip.Words.{variable-begins}
use Rattle.meaning_accepting.proofs.RoundTrip.Legible.{allowed-legible}
use Rattle.meaning_accepting.proofs.RoundTrip.Patterns.{PatternListed, pattern-listed}
use Rattle.meaning_accepting.proofs.RoundTrip.Expressions.{ExpressionListed, expression-listed}

-- CONDITIONS

class-spelled : (class : Class) → spelled_name (class_name class) ≡ true
unfolding every
class-spelled = by-class (λ k. spelled_name (class_name k) ≡ true) refl refl refl refl refl

class-named : (class : Class) → predicate_of (class_name class) ≡ some class
unfolding class_named same_bytes
class-named = by-class (λ k. predicate_of (class_name k) ≡ some k) refl refl refl refl refl

-- 'T' or 'F' after a blank, three bytes long
truth-lexed : (at : ℕ) (truth : Bool) (rest : Bytes) →
    remaining inside at (32 ∷ 39 ∷ truth_byte truth ∷ 39 ∷ rest) ≡ truth_string truth (suc at) ∷ remaining inside (suc at + 3) rest
unfolding lex skip quotation
truth-lexed at truth rest =
    let end : suc (suc (suc (suc at))) ≡ suc at + 3 = omega arith in
    rw (← end)
    (blank-passed inside at 32 (39 ∷ truth_byte truth ∷ 39 ∷ rest) refl
    ∙ remaining-token inside (suc at) (39 ∷ truth_byte truth ∷ 39 ∷ rest) (quoted (truth_byte truth ∷ [])) (suc at) (suc (suc (suc (suc at)))) rest
    (lexes truth) refl)
  where
    lexes : (truth : Bool) → lex inside (suc at) (39 ∷ truth_byte truth ∷ 39 ∷ rest) ≡
        lexed (quoted (truth_byte truth ∷ [])) (suc at) (suc (suc (suc (suc at)))) rest
    lexes true = refl
    lexes false = refl

record ConditionsListed (at : ℕ) (bytes : Bytes) (cs : List Condition) (rest : Bytes) : Type 0 where
  past : ℕ
  derived : IsConditions (remaining inside at bytes) cs (remaining inside past rest)

-- a condition on a variable that begins with the byte v: s or e
condition-lists : (class : Class) (v b : ℕ) (x : Name) (on : Subject) (truth : Bool) (cs : List Condition) (text rest : Bytes) →
    in_class alphabetic v ≡ true → IsSubject (word (v ∷ b ∷ x)) on → spelled_identifier (b ∷ x) ≡ true →
    ((at : ℕ) → ConditionsListed at text cs rest) → (at : ℕ) →
    ConditionsListed at
    (44 ∷ 32 ∷ 60 ∷ (class_name class ++ 32 ∷ v ∷ ((b ∷ x) ++ 62 ∷ 58 ∷ 32 ∷ 39 ∷ truth_byte truth ∷ 39 ∷ text)))
    (record { predicate = class; subject = on; expected = truth } ∷ cs)
    rest
condition-lists class v b x on truth cs text rest letter is spelled later at =
    let closing : Bytes = 62 ∷ 58 ∷ 32 ∷ 39 ∷ truth_byte truth ∷ 39 ∷ text in
    let named : Bytes = 32 ∷ v ∷ ((b ∷ x) ++ closing) in
    let comma = sign-begins inside at 44 (32 ∷ 60 ∷ (class_name class ++ named)) refl in
    let bracket = after-blank comma.past 32 refl (call-begins inside (suc comma.past) (class_name class) named (class-spelled class)) in
    let name = name-begins naming (λ at bytes. refl) bracket.past (class_name class) named (class-spelled class) refl in
    let variable = variable-begins name.past v (b ∷ x) closing letter (both_left (every word_byte (b ∷ x)) _ spelled) refl in
    let close = sign-begins inside variable.past 62 (58 ∷ 32 ∷ 39 ∷ truth_byte truth ∷ 39 ∷ text) refl in
    let colon = sign-begins inside close.past 58 (32 ∷ 39 ∷ truth_byte truth ∷ 39 ∷ text) refl in
    let l = later (suc colon.past + 3) in
    record {
      past = l.past;
      derived =
          rw (comma.tokens, bracket.tokens, name.tokens, variable.tokens, close.tokens, colon.tokens, truth-lexed colon.past truth text)
          (condition_then (is_condition (class-named class) is) l.derived);
    }

condition-regroup : (n x truth cs rest : Bytes) → ((n ++ (x ++ truth)) ++ cs) ++ rest ≡ n ++ (x ++ (truth ++ (cs ++ rest)))
condition-regroup n x truth cs rest =
    append_assoc (n ++ (x ++ truth)) cs rest
    ∙ (append_assoc n (x ++ truth) (cs ++ rest) ∙ ap (λ z. n ++ z) (append_assoc x truth (cs ++ rest)))

module _ (symbols parts : List Name) (spelled_symbols : every spelled_identifier symbols ≡ true)
    (spelled_parts : every spelled_identifier parts ≡ true) where
  subject-lists : (class : Class) (on : Subject) (truth : Bool) (cs : List Condition) (text rest : Bytes) → of_pattern symbols parts on ≡ true →
      ((at : ℕ) → ConditionsListed at text cs rest) → (at : ℕ) →
      ConditionsListed at
      (44 ∷ 32 ∷ 60 ∷ (class_name class ++ (subject_text on ++ 62 ∷ 58 ∷ 32 ∷ 39 ∷ truth_byte truth ∷ 39 ∷ text)))
      (record { predicate = class; subject = on; expected = truth } ∷ cs)
      rest
  subject-lists class (of_symbol []) truth cs text rest m later at = impossible (member-every spelled_identifier [] symbols spelled_symbols m)
  subject-lists class (of_symbol (b ∷ x)) truth cs text rest m later at =
      condition-lists class 115 b x (of_symbol (b ∷ x)) truth cs text rest refl symbol_subject
      (member-every spelled_identifier (b ∷ x) symbols spelled_symbols m) later at
  subject-lists class (of_part []) truth cs text rest m later at = impossible (member-every spelled_identifier [] parts spelled_parts m)
  subject-lists class (of_part (b ∷ x)) truth cs text rest m later at =
      condition-lists class 101 b x (of_part (b ∷ x)) truth cs text rest refl part_subject
      (member-every spelled_identifier (b ∷ x) parts spelled_parts m) later at

  conditions-listed : (cs : List Condition) → all_of_pattern symbols parts cs ≡ true → (rest : Bytes) (at : ℕ) →
      ConditionsListed at (conditions_text cs ++ rest) cs rest
  unfolding conditions_text every
  conditions-listed [] members rest at = record { past = at; derived = no_conditions }
  conditions-listed (c ∷ cs) members rest at =
      rw
      (condition-regroup (class_name c.predicate) (subject_text c.subject) (62 ∷ 58 ∷ 32 ∷ 39 ∷ truth_byte c.expected ∷ 39 ∷ [])
      (conditions_text cs) rest)
      (subject-lists c.predicate c.subject c.expected cs (conditions_text cs ++ rest) rest
      (both_left (of_pattern symbols parts c.subject) _ members)
      (conditions-listed cs (both_right (of_pattern symbols parts c.subject) _ members) rest)
      at)

-- after a pattern comes `,` or a blank
conditions-parted : (cs : List Condition) (rest : Bytes) → Parted rest → Parted (conditions_text cs ++ rest)
unfolding conditions_text
conditions-parted [] rest parted = parted
conditions-parted (c ∷ cs) rest parted = refl

-- SENTENCES

-- a line after the end of the line before it, without its first blank or with it
record LineListed (at : ℕ) (line more : Bytes) : Type 0 where
  start : ℕ
  same : remaining inside at (10 ∷ (without_blank line ++ more)) ≡ remaining inside start (line ++ more)

line-listed : (at : ℕ) (line more : Bytes) → LineListed at line more
line-listed at [] more = record { start = suc at; same = blank-passed inside at 10 more refl }
line-listed at (b ∷ line) more = go (eqb b 32) refl
  where
    go : (is : Bool) → eqb b 32 ≡ is → LineListed at (b ∷ line) more
    go true e =
        record {
          start = at;
          same =
              rw (eqb-true b 32 e)
              (blank-passed inside at 10 (line ++ more) refl ∙ sym (blank-passed inside at 32 (line ++ more) refl));
        }
    go false e = record { start = suc at; same = rw e (blank-passed inside at 10 (b ∷ (line ++ more)) refl) }

-- from the end of the line before it to its `;`
pub record SentenceListed (at : ℕ) (s : Sentence) (more : Bytes) : Type 0 where
  pub past : ℕ
  pub tree : Sentence
  pub same : unplaced_sentence tree ≡ unplaced_sentence s
  pub derived : IsSentence (remaining inside at (10 ∷ (sentence_text s ++ more))) tree (remaining inside past (59 ∷ 10 ∷ more))

line-regroup : (p cs e more : Bytes) →
    (p ++ (cs ++ 32 ∷ 61 ∷ (e ++ 59 ∷ 10 ∷ []))) ++ more ≡ p ++ (cs ++ 32 ∷ 61 ∷ (e ++ 59 ∷ 10 ∷ more))
line-regroup p cs e more =
    append_assoc p (cs ++ 32 ∷ 61 ∷ (e ++ 59 ∷ 10 ∷ [])) more
    ∙ ap (λ z. p ++ z)
    (append_assoc cs (32 ∷ 61 ∷ (e ++ 59 ∷ 10 ∷ [])) more ∙ ap (λ z. cs ++ 32 ∷ 61 ∷ z) (append_assoc e (59 ∷ 10 ∷ []) more))

module _ (s : Sentence) (more : Bytes) (at : ℕ) where
  -- the text after the `=`, after the pattern, and the whole line before its first blank is taken away
  abbrev after_equals : Bytes
  after_equals = expression_text unquoted s.expression ++ 59 ∷ 10 ∷ more

  abbrev after_pattern : Bytes
  after_pattern = conditions_text s.conditions ++ 32 ∷ 61 ∷ after_equals

  abbrev whole_line : Bytes
  whole_line =
      pattern_text unquoted s.pattern
      ++ (conditions_text s.conditions ++ 32 ∷ 61 ∷ (expression_text unquoted s.expression ++ 59 ∷ 10 ∷ []))

  -- a sentence from its listed parts
  parts-listed : (line : LineListed at whole_line more)
      (first : PatternListed line.start (pattern_text unquoted s.pattern ++ after_pattern) s.pattern after_pattern)
      (conditions : ConditionsListed first.past after_pattern s.conditions (32 ∷ 61 ∷ after_equals))
      (equals : Begins inside conditions.past (32 ∷ 61 ∷ after_equals) (sign 61) inside after_equals)
      (last : ExpressionListed equals.past after_equals s.expression (59 ∷ 10 ∷ more)) →
      SentenceListed at s more
  parts-listed line first conditions equals last =
      record {
        past = last.past;
        tree = record { pattern = s.pattern; conditions = s.conditions; expression = last.tree };
        same = ap (λ e. record { pattern = s.pattern; conditions = s.conditions; expression = e }) last.same;
        derived =
            rw (
              line.same,
              line-regroup (pattern_text unquoted s.pattern) (conditions_text s.conditions)
                  (expression_text unquoted s.expression) more,
            )
            (is_sentence first.derived (rw equals.tokens at conditions.derived) last.derived);
      }

  pub sentence-listed : allowed_sentence s ≡ true → SentenceListed at s more
  unfolding every
  sentence-listed allows =
      let p = s.pattern in
      let others = both_right (allowed_pattern p) _ allows in
      let spelled = (pattern-facts p (both_left (allowed_pattern p) _ allows)).spelled in
      let symbols = symbols-spelled [] p refl spelled in
      let known = both_left (allowed_conditions (symbols_of p) (parts_of p) s.conditions) _ others in
      let members = both_left (all_of_pattern (symbols_of p) (parts_of p) s.conditions) (leb (length s.conditions) max_conditions) known in
      let legible =
      allowed-legible (symbols_of p) (parts_of p) s.expression symbols (parts-spelled p spelled)
      (both_right (allowed_conditions (symbols_of p) (parts_of p) s.conditions) _ others)
      in
      let line = line-listed at whole_line more in
      let first =
      pattern-listed p (both_left (allowed_pattern p) _ allows) after_pattern
      (conditions-parted s.conditions (32 ∷ 61 ∷ after_equals) refl) line.start
      in
      let conditions =
      conditions-listed (symbols_of p) (parts_of p) symbols (parts-spelled p spelled) s.conditions members (32 ∷ 61 ∷ after_equals) first.past
      in
      let equals = after-blank conditions.past 32 refl (sign-begins inside (suc conditions.past) 61 after_equals refl) in
      parts-listed line first conditions equals (expression-listed s.expression legible (59 ∷ 10 ∷ more) refl equals.past)
