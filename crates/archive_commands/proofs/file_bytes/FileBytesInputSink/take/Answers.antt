use Rattle.std.proofs.Common.{refl, ◌≡◌, ◌∙◌, ◌++◌, List, ℕ, ap, length, arith}
use Rattle.archive_commands.proofs.Stoppers.{first_pushed}
use Rattle.archive_commands.proofs.Taking.{refused_push, sound_bytes}
use Rattle.archive_commands.proofs.file_bytes.FileBytesInputSink.take.Goals as goal

pub returns-in-Err-clause-refused : goal.returns-in-Err-clause-refused
returns-in-Err-clause-refused c = λ bytes taken.
    refused_push c.args.self.now.reader c.push.new.self taken.records bytes c.args.piece.now taken.read c.in-Err.fault c.of_input.result c.of_input.ensures c.in-Err.ensures.fault

pub returns-then-len-gt-MAX_FILE-clause-refused : goal.returns-then-len-gt-MAX_FILE-clause-refused
returns-then-len-gt-MAX_FILE-clause-refused c = λ bytes taken.
    let piece = c.args.piece.now in
    let kept : c.extend_from_slice.new.self.items ≡ bytes ++ piece = c.in_ok-extend_from_slice.ensures.items ∙ ap (λ (xs : List ℕ). xs ++ piece) taken.same in (
      refl,
      omega (arith, c.if-len-gt-MAX_FILE.true, c.len.ensures, ap length kept),
      sound_bytes c.push.new.self _ (bytes ++ piece) c.in-Ok.ensures.going (c.in-Ok.ensures.hands_out taken.records bytes taken.read),
    )

pub returns-clause-taken : goal.returns-clause-taken
returns-clause-taken c = λ bytes taken.
    let piece = c.args.piece.now in
    let kept : c.extend_from_slice.new.self.items ≡ bytes ++ piece = c.in_ok-extend_from_slice.ensures.items ∙ ap (λ (xs : List ℕ). xs ++ piece) taken.same in
    let read = c.in-Ok.ensures.hands_out taken.records bytes taken.read in
    record {
      same = kept;
      short = omega (arith, c.if-len-gt-MAX_FILE.false, c.len.ensures, ap length kept);
      records = _;
      read = read;
      first = first_pushed taken.records _ _ c.args.self.now.stopping c.first_stopping-self.result taken.first c.as_slice.ensures c.first_stopping-self.ensures;
      sound = sound_bytes c.push.new.self _ (bytes ++ piece) c.in-Ok.ensures.going read;
    }
