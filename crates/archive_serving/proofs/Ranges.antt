-- A text that names no range of ports.
use Rattle.std.proofs.Common.{◌≡◌, ℕ, List, Option, Some, None, subst}
use Rattle.archive_serving.specs.Ports.{ArePorts, IsPorts}
use Rattle.archive_serving.specs.declared.ports.Ports.{Ports}

same_text : (u t : List ℕ) → Some u ≡ Some t → u ≡ t
same_text u t same = cc

pub names_none : (given : Option (List ℕ)) (text : List ℕ) → given ≡ Some text → ((ports : Ports) → IsPorts text ports → ⊥) →
    (ports : Option Ports) → ArePorts given ports → ⊥
names_none None text same never ports are = absurd cc
names_none (Some u) text same never None are = are
names_none (Some u) text same never (Some ports) are = never ports (subst (λ (t : List ℕ). IsPorts t ports) (same_text u text same) are)
