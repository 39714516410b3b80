-- Tokens that are items: strings, s-variables and e-variables.
use Prim.Native.Nat.{ℕ, suc, ◌<◌}
use mathlib.Core.Path.{◌≡◌, refl, ◌∙◌}
use mathlib.Core.Bool.{Bool, true, false, not, false≢true}
use lib.Dec.{T}
use mathlib.Core.List.{[], ◌∷◌}
use native.Mathlib.Omega.{arith}
use lib.ListN.{get_or}
use lib.Seq.{slice, slice-cons}
use Rattle.meaning.specs.Choice.{Bytes, pick}
use Rattle.meaning.specs.Tokens as Tokens
use Rattle.meaning.specs.Reading.{Item, characters, symbol_item, part_item, variable_of, item_of, is_item}
use Rattle.read_tokens.specs.View as View
use Rattle.read_tokens.specs.View.{characters_in, quotation_at, token_of, placed_of, Sound, stream, Comes}
use Rattle.read_tokens.specs.declared.Span.{Span}
use Rattle.read_tokens.specs.declared.Token.{Token}
use Rattle.read_tokens.specs.declared.Token.TheVariants.{Symbol, Part, Quoted}
use Rattle.read_tokens.proofs.Variants.{by_kind}
use Rattle.read_tokens.specs.declared.Placed.{Placed}
use Rattle.read_bookkeeping.specs.Tables.{Inside}
use Rattle.read_bookkeeping.specs.Items.{Identifier, StringAt, token_item}

-- an s-variable or an e-variable
abbrev pub variable_token : Bool → Span → Token
variable_token false x = Symbol x
variable_token true x = Part x

abbrev pub variable_item : Bool → Bytes → Item
variable_item false x = symbol_item x
variable_item true x = part_item x

abbrev variable_letter : Bool → ℕ
variable_letter false = 115
variable_letter true = 101

-- it has at least one byte after its letter
module _ {text : Bytes} {at : ℕ} {x : Span} (i : Identifier text at x) where
  first : View.span_text text x ≡ get_or text x.from 0 ∷ slice (suc x.from) x.past text
  first = slice-cons x.from x.past text 0 i.some i.inside

  pub variable-of : (is_part : Bool) → variable_of (variable_letter is_part ∷ View.span_text text x) ≡ variable_item is_part (View.span_text text x)
  variable-of false = rw first
  variable-of true = rw first

pub identifier-inside : {text : Bytes} {at : ℕ} {x : Span} → Identifier text at x → Inside text x
identifier-inside i = record { forward = omega (arith, i.some); inside = i.inside }

-- a token is an item that ends where it does
pub record ItemHere (text : Bytes) (t : Placed) (item : Item) (past : ℕ) : Type 0 where
  pub is : token_item text t ≡ item
  pub some : is_item item ≡ true
  pub ends : past ≡ t.past

module _ {text : Bytes} {mode : Tokens.Mode} {at : ℕ} {t : Placed} (c : Comes text mode at t) where
  -- the token is known to be one
  known : {k : Token} → t.token ≡ k → Sound text k t.place t.past
  known e = rw e at c.sound

  string-at : {count : ℕ} → t.token ≡ Quoted count → StringAt text at t.place t.past count
  string-at e =
      let s = known e in
      record { after = c.onward; closed = rw s.0 tt; counted = s.1; charged = s.2; inside = c.inside }

  pub string-here : {count : ℕ} → t.token ≡ Quoted count → ItemHere text t (characters (characters_in (quotation_at text t.place))) t.past
  string-here e = record { is = rw e; some = refl; ends = refl }

  spans : (is_part : Bool) {x : Span} → t.token ≡ variable_token is_part x → Sound text (Symbol x) t.place t.past
  spans false e = known e
  spans true e = known e

  module _ (is_part : Bool) (x : Span) (e : t.token ≡ variable_token is_part x) where
    spanned : Sound text (Symbol x) t.place t.past
    spanned = spans is_part e

    pub variable-at : Identifier text at x
    variable-at =
        record {
          after = omega (arith, spanned.0, c.onward);
          some = omega (arith, spanned.0, spanned.1, spanned.2);
          inside = omega (arith, spanned.1, c.inside);
        }

    pub variable-here : ItemHere text t (variable_item is_part (View.span_text text x)) x.past
    variable-here = either is_part e (variable-of variable-at is_part)
      where
        either : (is : Bool) → t.token ≡ variable_token is x
            → variable_of (variable_letter is ∷ View.span_text text x) ≡ variable_item is (View.span_text text x)
            → ItemHere text t (variable_item is (View.span_text text x)) x.past
        either false d v = record { is = rw d v; some = refl; ends = spanned.1 }
        either true d v = record { is = rw d v; some = refl; ends = spanned.1 }

-- what is asked of a token by the function that adds it to what is held
module _ {Held : Type 0} {text : Bytes} {mode : Tokens.Mode} {at : ℕ} {t : Placed} (pre : Held × Comes text mode at t) where
  pub asks-string : {count : ℕ} → t.token ≡ Quoted count → Held × StringAt text at t.place t.past count
  asks-string e = (pre.0, string-at pre.1 e)

  pub asks-variable : (is_part : Bool) (x : Span) → t.token ≡ variable_token is_part x → Held × Identifier text at x
  asks-variable is_part x e = (pre.0, variable-at pre.1 is_part x e)

-- after an item the tokens go on inside the sentence
module _ (text : Bytes) (place past : ℕ) where
  abbrev GoesOn : Token → Type 0
  GoesOn k =
      is_item (item_of (token_of text k place past)) ≡ true
      → T (not (Tokens.is_last_token (token_of text k place past)))
      × (pick (Tokens.is_last_token (token_of text k place past)) [] (stream text (Tokens.mode_after Tokens.inside (token_of text k place past)) past)
      ≡ stream text Tokens.inside past)

  item-goes-on : (k : Token) → GoesOn k
  item-goes-on =
      by_kind GoesOn (λ n e. absurd (false≢true e)) (λ x e. (tt, refl)) (λ x e. (tt, refl)) (λ e. (tt, refl)) (λ n e. (tt, refl))
      (λ b e. absurd (false≢true e))
      (λ e. absurd (false≢true e)) (λ e. absurd (false≢true e))

pub record Item-then (text : Bytes) (at : ℕ) (t : Placed) : Type 0 where
  pub unrolled : stream text Tokens.inside at ≡ placed_of text t ∷ stream text Tokens.inside t.past
  pub moves : at < t.past

pub item-then : {text : Bytes} {at : ℕ} {t : Placed} → Comes text Tokens.inside at t → is_item (token_item text t) ≡ true → Item-then text at t
item-then {text} {at} {t} c e =
    let g = item-goes-on text t.place t.past t.token e in
    record { unrolled = c.unrolled ∙ rw g.1; moves = omega (arith, c.onward, c.moves g.0) }
