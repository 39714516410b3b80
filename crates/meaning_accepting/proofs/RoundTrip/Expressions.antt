-- A listed expression's tokens derive that expression again, but for the places of called names.
use Prim.Native.Nat.{ℕ, suc}
use mathlib.Core.Path.{◌≡◌, refl, sym, ap, ◌∙◌}
use mathlib.Core.Bool.{true}
use mathlib.Core.List.{List, [], ◌∷◌, ◌++◌, append_assoc, append-nil}
use Rattle.meaning.specs.Choice.{Bytes, Name, both, every}
use Rattle.meaning.specs.Classes.{in_class, alphabetic}
use Rattle.meaning.specs.Tree.{Expression, end, then_character, then_symbol, then_part, then_call, unplaced}
use Rattle.meaning.specs.Allowed.{is_byte, word_byte, spelled_name, spelled_identifier}
use Rattle.meaning.specs.Tokens.{inside, naming, word, Placed}
use Rattle.meaning.specs.Grammar.{standing, then_characters, IsExpression, no_items, string_then, symbol_then, part_then, call_then}
use Rattle.meaning.specs.Listing.{Quoted, unquoted, close_quote, quoted_character, after_character, expression_text}
use Rattle.meaning_accepting.proofs.Reading.Basics.{both_left, both_right, both_true, impossible}
use Rattle.meaning_accepting.proofs.RoundTrip.Remaining.{remaining}
use Rattle.meaning_accepting.proofs.RoundTrip.Words.{after-blank, Parted, sign-begins, call-begins, name-begins, variable-begins}
use Rattle.meaning_accepting.proofs.RoundTrip.Strings.{joined, string-begins}
use Rattle.meaning_accepting.proofs.RoundTrip.Legible.{legible}

-- THE FIRST STRING

-- the characters that an expression begins with, and what comes after them
unfoldable pub leading : Expression → Bytes
leading end = []
leading (then_character c e) = c ∷ leading e
leading (then_symbol x e) = []
leading (then_part x e) = []
leading (then_call place n a e) = []

unfoldable pub past_leading : Expression → Expression
past_leading end = end
past_leading (then_character c e) = past_leading e
past_leading (then_symbol x e) = then_symbol x e
past_leading (then_part x e) = then_part x e
past_leading (then_call place n a e) = then_call place n a e

leading-split : (e : Expression) → then_characters (leading e) (past_leading e) ≡ e
unfolding leading past_leading then_characters
leading-split end = refl
leading-split (then_character c e) = ap (then_character c) (leading-split e)
leading-split (then_symbol x e) = refl
leading-split (then_part x e) = refl
leading-split (then_call place n a e) = refl

leading-text : (state : Quoted) (e : Expression) → expression_text state e ≡ joined state (leading e) ++ expression_text unquoted (past_leading e)
unfolding leading past_leading joined expression_text
leading-text state end = sym (append-nil (close_quote state))
leading-text state (then_character c e) =
    rw (leading-text (after_character state c) e, append_assoc (quoted_character state c) (joined (after_character state c) (leading e)))
leading-text state (then_symbol x e) = refl
leading-text state (then_part x e) = refl
leading-text state (then_call place n a e) = refl

leading-bytes : (e : Expression) → legible e ≡ true → every is_byte (leading e) ≡ true
unfolding leading every legible
leading-bytes end spelled = refl
leading-bytes (then_character c e) spelled = both_true (both_left (is_byte c) _ spelled) (leading-bytes e (both_right (is_byte c) _ spelled))
leading-bytes (then_symbol x e) spelled = refl
leading-bytes (then_part x e) spelled = refl
leading-bytes (then_call place n a e) spelled = refl

-- an expression's text begins with a blank
expression-parted : (e : Expression) (rest : Bytes) → Parted rest → Parted (expression_text unquoted e ++ rest)
unfolding expression_text
expression-parted end rest parted = parted
expression-parted (then_character c e) rest parted = refl
expression-parted (then_symbol x e) rest parted = refl
expression-parted (then_part x e) rest parted = refl
expression-parted (then_call place n a e) rest parted = refl

unplaced-written : (text : Bytes) (e : Expression) → unplaced (then_characters text e) ≡ then_characters text (unplaced e)
unfolding unplaced then_characters
unplaced-written [] e = refl
unplaced-written (c ∷ text) e = ap (then_character c) (unplaced-written text e)

-- ITEMS

pub record ExpressionListed (at : ℕ) (bytes : Bytes) (e : Expression) (rest : Bytes) : Type 0 where
  pub past : ℕ
  pub tree : Expression
  pub same : unplaced tree ≡ unplaced e
  pub derived : IsExpression (remaining inside at bytes) tree (remaining inside past rest)

abbrev Lists : Expression → Type 0
Lists e = (rest : Bytes) → Parted rest → (at : ℕ) → ExpressionListed at (expression_text unquoted e ++ rest) e rest

string-lists : (c : ℕ) (e : Expression) → is_byte c ≡ true → legible e ≡ true → Lists (past_leading e) → Lists (then_character c e)
unfolding leading past_leading every
string-lists c e byte spelled later rest parted at =
    let text = expression_text unquoted (past_leading e) ++ rest in
    let b = string-begins at c (leading e) text (both_true byte (leading-bytes e spelled)) in
    let l = later rest parted b.past in
    rw (leading-text unquoted (then_character c e), append_assoc (joined unquoted (c ∷ leading e)) (expression_text unquoted (past_leading e)) rest)
    record {
      past = l.past;
      tree = then_characters (c ∷ leading e) l.tree;
      same =
          unplaced-written (c ∷ leading e) l.tree
          ∙ (ap (then_characters (c ∷ leading e)) l.same
          ∙ (sym (unplaced-written (c ∷ leading e) (past_leading e)) ∙ ap unplaced (leading-split (then_character c e))));
      derived = rw b.tokens (string_then l.derived);
    }

-- s or e and an identifier, and then more items
variable-lists : (v : ℕ) (item : Name → Expression → Expression) → in_class alphabetic v ≡ true →
    ((x : Name) (t u : Expression) → unplaced t ≡ unplaced u → unplaced (item x t) ≡ unplaced (item x u)) →
    ((place past b : ℕ) (x : Bytes) (ts rest : List Placed) (t : Expression) → IsExpression ts t rest →
    IsExpression (standing (word (v ∷ b ∷ x)) place past ∷ ts) (item (b ∷ x) t) rest) →
    (x : Name) (e : Expression) → both (spelled_identifier x) (legible e) ≡ true → (legible e ≡ true → Lists e) →
    (rest : Bytes) → Parted rest → (at : ℕ) → ExpressionListed at (32 ∷ v ∷ ((x ++ expression_text unquoted e) ++ rest)) (item x e) rest
variable-lists v item alphabet same derives [] e spelled later rest parted at = impossible spelled
variable-lists v item alphabet same derives (b ∷ x) e spelled later rest parted at =
    let word = both_left (every word_byte (b ∷ x)) _ (both_left (spelled_identifier (b ∷ x)) (legible e) spelled) in
    let begins = variable-begins at v (b ∷ x) (expression_text unquoted e ++ rest) alphabet word (expression-parted e rest parted) in
    let l = later (both_right (spelled_identifier (b ∷ x)) (legible e) spelled) rest parted begins.past in
    rw (append_assoc (b ∷ x) (expression_text unquoted e) rest)
    record {
      past = l.past;
      tree = item (b ∷ x) l.tree;
      same = same (b ∷ x) l.tree e l.same;
      derived = rw begins.tokens (derives begins.place begins.past b x _ _ l.tree l.derived);
    }

-- CALLS

call-regroup : (n a e rest : Bytes) → (n ++ (a ++ 62 ∷ e)) ++ rest ≡ n ++ (a ++ 62 ∷ (e ++ rest))
call-regroup n a e rest = append_assoc n (a ++ 62 ∷ e) rest ∙ ap (λ z. n ++ z) (append_assoc a (62 ∷ e) rest)

call-lists : (place : ℕ) (n : Name) (a e : Expression) → spelled_name n ≡ true → Lists a → Lists e → Lists (then_call place n a e)
unfolding expression_text unplaced
call-lists place n a e spelled inner outer rest parted at =
    let text : Bytes = 62 ∷ (expression_text unquoted e ++ rest) in
    let bracket = after-blank at 32 refl (call-begins inside (suc at) n (expression_text unquoted a ++ text) spelled) in
    let name = name-begins naming (λ at bytes. refl) bracket.past n (expression_text unquoted a ++ text) spelled (expression-parted a text refl) in
    let argument = inner text refl name.past in
    let closing = sign-begins inside argument.past 62 (expression_text unquoted e ++ rest) refl in
    let after = outer rest parted closing.past in
    rw (call-regroup n (expression_text unquoted a) (expression_text unquoted e) rest)
    record {
      past = after.past;
      tree = then_call name.place n argument.tree after.tree;
      same = ap (λ z. then_call 0 n z (unplaced after.tree)) argument.same ∙ ap (then_call 0 n (unplaced a)) after.same;
      derived = rw (bracket.tokens, name.tokens) (call_then (rw closing.tokens at argument.derived) after.derived);
    }

-- EXPRESSIONS

-- an expression, and what comes after its first string
record ListsBoth (e : Expression) : Type 0 where
  whole : Lists e
  later : Lists (past_leading e)

lists-both : (e : Expression) → legible e ≡ true → ListsBoth e
unfolding legible past_leading expression_text unplaced
lists-both end spelled =
    let none : Lists end = λ rest parted at. record { past = at; tree = end; same = refl; derived = no_items } in
    record { whole = none; later = none }
lists-both (then_character c e) spelled =
    let l = lists-both e (both_right (is_byte c) _ spelled) in
    record { whole = string-lists c e (both_left (is_byte c) _ spelled) (both_right (is_byte c) _ spelled) l.later; later = l.later }
lists-both (then_symbol x e) spelled =
    let l : Lists (then_symbol x e) =
    variable-lists 115 then_symbol refl (λ y t u p. ap (then_symbol y) p) (λ place past b y ts rest t d. symbol_then d) x e spelled
    (λ s. (lists-both e s).whole)
    in
    record { whole = l; later = l }
lists-both (then_part x e) spelled =
    let l : Lists (then_part x e) =
    variable-lists 101 then_part refl (λ y t u p. ap (then_part y) p) (λ place past b y ts rest t d. part_then d) x e spelled
    (λ s. (lists-both e s).whole)
    in
    record { whole = l; later = l }
lists-both (then_call place n a e) spelled =
    let others = both_right (spelled_name n) (both (legible a) (legible e)) spelled in
    let l =
    call-lists place n a e (both_left (spelled_name n) _ spelled) (lists-both a (both_left (legible a) (legible e) others)).whole
    (lists-both e (both_right (legible a) (legible e) others)).whole
    in
    record { whole = l; later = l }

pub expression-listed : (e : Expression) → legible e ≡ true → (rest : Bytes) → Parted rest → (at : ℕ) →
    ExpressionListed at (expression_text unquoted e ++ rest) e rest
expression-listed e spelled = (lists-both e spelled).whole
