use Rattle.std.proofs.Common.{◌≡◌, ◌≤◌, take}
use Rattle.std.specs.List.{fold}
use Rattle.tws_pages.specs.Levels.{with_digit}
use Rattle.tws_pages.proofs.level_list.value_of.Given as goal

abbrev pub invariant-loop-digit : goal.invariant-loop-digit
invariant-loop-digit l = record {
  is : l.value ≡ fold with_digit 0 (take l.digit-index l.digits);
  small : l.value ≤ 999999;
}
