-- What is owned of memory in which nothing lies.
use Rattle.std.specs.Prelude.{ℕ, ◌/◌}
use mir.Syntax.{Ty, w128, ty_int, ty_array}
use base.Fml.{Fml}
use denote.RawPtr.{Ptr, room_for}

-- as many units of 16 bytes, each at a multiple of 16, as n bytes have whole
abbrev pub units_in : ℕ → Ty
units_in n = ty_array (ty_int w128) (n / 16)

-- room for them at this address
abbrev pub empty_at : Ptr → ℕ → Fml
empty_at at n = room_for (units_in n) at
