-- How a file is named in the lines about it.
use Rattle.std.specs.Prelude.{ℕ, nat_lt, Bool, true, false, List, [], ◌++◌, length, string_bytes, codes}
use Rattle.command_line.specs.declared.source.Source.{Source}
use Rattle.command_line.specs.declared.source.Source.TheVariants.{Standard, Named}

abbrev pub are_several : List Source → Bool
are_several sources = nat_lt 1 (length sources)

-- what each line about a file begins with: its name, if there are several files
abbrev pub label_of : (several : Bool) → Source → List ℕ
label_of false source = []
label_of true Standard = codes "standard input: "
label_of true (Named name) = string_bytes name ++ codes ": "
