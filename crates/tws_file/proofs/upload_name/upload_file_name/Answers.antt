use Rattle.std.proofs.Common.{rules}
use Rattle.tws_file.proofs.upload_name.upload_file_name.Goals as goal

pub returns : goal.returns
returns c = search rules
