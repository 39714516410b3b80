-- A Look from the middle template's place as the only test.
use Prim.Native.Nat.{ℕ, ◌+◌, ◌-◌, ◌<◌}
use mathlib.Core.Path.{◌≡◌, sym}
use lib.ListN.{length, get_or, drop}
use borrow.Author.Tests.{eq-eqb, ne_eqb}
use Rattle.meaning.specs.Instructions.{from_place, look}
use Rattle.meaning.specs.Choice.{Bytes}
use Rattle.meaning.specs.Matching.{check, check_all, Found, found_at, search}
use Rattle.meaning.specs.Packing.{Words, second_in, third_in, unpack_tests}
use Rattle.run_sites.proofs.Laws.Lists.{nth_in}
use Rattle.run_checking.proofs.Laws.Cells.{look-from}
use Rattle.run_checking.proofs.Laws.Testing.{one-test}
use Rattle.run_searching.specs.Searches.{OneLook}
use Rattle.run_searching.proofs.Laws.Places.{next_place, search-agree}

-- what is scanned for is what the tests ask
pub scanned : (field : Bytes) (words : Words) (at count past whole places first : ℕ) (r : Found) → OneLook words at count past whole →
    r ≡ search (check (look (from_place (second_in (get_or words at 0))) (third_in (get_or words at 0))) field) places first →
    r ≡ search (check_all (unpack_tests count (drop at words)) field) places first
scanned field words at count past whole places first r once e =
    let one = one-test field words at once.there in
    rw (once.one, search-agree _ _ places first (λ p h h'. one p), look-from _ 2 once.look) e

-- the byte stands there, or the search goes on
module _ (field : Bytes) (offset byte left place : ℕ) (some : 0 < left) where
  abbrev pub scanning : ℕ → ℕ → Found
  scanning left place = search (check (look (from_place offset) byte) field) left place

  module _ (h : place + offset < length field) where
    pub scan-here : get_or field (place + offset) 0 ≡ byte → scanning left place ≡ found_at place
    scan-here e =
        rw (
          next_place (check (look (from_place offset) byte) field) left place some,
          nth_in field (place + offset) h,
          eq-eqb byte (get_or field (place + offset) 0) (sym e),
        )

    pub scan-on : (get_or field (place + offset) 0 ≡ byte → ⊥) → scanning left place ≡ scanning (left - 1) (place + 1)
    scan-on ne =
        rw (
          next_place (check (look (from_place offset) byte) field) left place some,
          nth_in field (place + offset) h,
          ne_eqb byte (get_or field (place + offset) 0) (λ e. ne (sym e)),
        )
