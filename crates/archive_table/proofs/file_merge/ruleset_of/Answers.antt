use Rattle.std.proofs.Common.{sym, ◌∙◌, arith}
use Rattle.tftp_ends.specs.declared.chunks.TheConstants.{CHUNK_SIZE}
use Rattle.archive_table.proofs.FileMerges.{first_chunk, first_ruleset, no_ruleset}
use Rattle.archive_table.proofs.file_merge.ruleset_of.Goals as goal

pub returns-clause-text : goal.returns-clause-text
returns-clause-text g c = λ file text. c.of_file.ensures.text file c.args.file.now CHUNK_SIZE text (omega arith) (c.chunk.ensures ∙ first_chunk c.args.file.now)

pub returns-clause-code : goal.returns-clause-code
returns-clause-code g c = c.of_file.ensures.code ∙ first_ruleset c.args.file.now c.chunk.result.now c.chunk.ensures

pub returns-then-chunk_count-eq0-clause-code : goal.returns-then-chunk_count-eq0-clause-code
returns-then-chunk_count-eq0-clause-code g c = no_ruleset c.args.file.now (sym c.chunk_count.ensures ∙ c.if-chunk_count-eq0.true)
