use Rattle.std.proofs.Common.{refl, ◌∙◌, arith}
use Rattle.archive_table.proofs.FileMerges.{merged_none, merged_more, merged_all, chunk_room, faults_of}
use Rattle.archive_table.proofs.file_merge.merge_chunks.Goals as goal

pub loop-i-init : goal.loop-i-init
loop-i-init g c = record { first = refl; rules = refl; merged = merged_none c.args.merge.now.now c.new-reader.result _ c.requires.fits c.new-reader.ensures.read refl }

pub take_chunk-requires : goal.take_chunk-requires
take_chunk-requires g c =
    let now = c.loop-i in
    record {
      room = chunk_room c.args.merge.now.now.entries now.reader now.merge.now c.args.file.now c.chunk.result.now now.i
          (omega (arith, c.len-len.ensures.count, c.len-len.ensures.most)) c.chunk.ensures now.invariant.merged;
    }

pub loop-i-preserved : goal.loop-i-preserved
loop-i-preserved g c =
    let now = c.loop-i in
    record {
      first = c.take_chunk.ensures.first ∙ now.invariant.first;
      rules = c.take_chunk.ensures.rules ∙ now.invariant.rules;
      merged = merged_more c.args.merge.now.now.entries now.reader c.take_chunk.new.reader now.merge.now c.take_chunk.new.merge.now c.args.file.now c.chunk.result.now now.i c.chunk.ensures now.invariant.merged c.in_ok-take_chunk.ensures.takes;
    }

pub returns-in-Err-clause-read : goal.returns-in-Err-clause-read
returns-in-Err-clause-read g c =
    let now = c.loop-i in
    let all = merged_all c.args.merge.now.now.entries now.reader now.merge.now c.args.file.now now.i (omega (arith, c.loop-i-test.false, c.chunk_count-i-end.ensures)) now.invariant.merged in
    faults_of c.args.merge.now.now.entries now.reader now.merge.now c.args.file.now _ all c.in-Err.ensures
