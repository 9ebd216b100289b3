use Rattle.std.proofs.Common.{◌≡◌, ◌≤◌, ◌++◌, length, take}
use Rattle.tws_best.proofs.BodyTexts.{texts}
use Rattle.tws_best.proofs.block.put_bodies.Given as goal

-- the bytes are those of the first bodies, as far as there is room
abbrev pub invariant-loop-body : goal.invariant-loop-body
invariant-loop-body g l = record {
  bytes : take l.end l.block ≡ take 512 (take l.fn.len l.fn.block ++ texts (take l.body-index l.bodies));
  most : l.end ≤ 512;
  size : length l.block ≡ 512;
}
