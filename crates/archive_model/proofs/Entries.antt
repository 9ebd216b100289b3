-- A stray that may happen is sent and remembered, and what a delivery changes is kept.
use Rattle.std.proofs.Common.{◌≡◌, ◌≢◌, ℕ, Bool, false, ◌==◌, List, Contains, ap, sym, ◌∙◌, subst, inl, inr}
use Rattle.std.proofs.lemmas.Bool.{ne_eqb}
use Rattle.archive_table.specs.Table.{Maps, Grant}
use Rattle.archive_table.specs.Keeper.{Keeping}
use Rattle.archive_model.specs.World.{Datagram, World, has_begun, strays_in, strays_unless}
use Rattle.archive_model.specs.Adding.{StraysIn, KeepsChange}
use Rattle.archive_model.proofs.Places.{Has-contains, Has-last}

-- a stray that may happen enters the network
pub strays_fits : (w : World) (d : Datagram) → d.source.host ≢ w.home.host → has_begun d.source w.begun ≡ false →
    strays_unless (d.source.host == w.home.host) (has_begun d.source w.begun) d w ≡ strays_in d w
strays_fits w d away unbegun =
    ap (λ (ours : Bool). strays_unless ours (has_begun d.source w.begun) d w) (ne_eqb d.source.host w.home.host away)
    ∙ ap (λ (begun : Bool). strays_unless false begun d w) unbegun

pub stray-is_in : (w : World) (d : Datagram) (grant : Grant) (maps : Maps) → StraysIn w d grant maps
stray-is_in w d grant maps may =
    let is = sym (strays_fits w d may.0 may.1) in (
      subst (λ (v : World). Contains v.net d) is (Has-contains _ d (Has-last w.net d)),
      subst (λ (v : World). Contains v.strays d) is (Has-contains _ d (Has-last w.strays d)),
    )

pub delivery-keeps : (w : World) (index spare : ℕ) (maps : Maps) (before after : List Keeping) → KeepsChange w index spare maps before after
delivery-keeps w index spare maps before after (inl stays) changes = absurd (changes stays.0)
delivery-keeps w index spare maps before after (inr keeps) changes = keeps
