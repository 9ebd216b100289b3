-- That a reference ends no later than what it refers to, by the parts of a type.
use mathlib.Core.List.{List, [], ◌++◌, Mem}
use Prim.Native.Nat.{ℕ}
use contract.BorrowLft.{⊑_meet, ⊑_static}

-- a lifetime that ends no later than this one
pub record EndsWithin (those these : List ℕ) : Type 0 where
  pub each : (a : ℕ) → Mem a those → Mem a these

pub static_within : (these : List ℕ) → EndsWithin [] these
static_within these = record { each = ⊑_static these }

pub both_within : (x y these : List ℕ) → EndsWithin x these → EndsWithin y these → EndsWithin (x ++ y) these
both_within x y these first second = record { each = ⊑_meet these x y first.each second.each }

pub all_within : {those these : List ℕ} → EndsWithin those these → (a : ℕ) → Mem a those → Mem a these
all_within ends = ends.each
