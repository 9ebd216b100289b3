use denote.Text.{Utf8}
use denote.Shadow.{shadow}
use Rattle.archive_serving.proofs.Listing.{Reads}
use Rattle.archive_serving.proofs.host_list.read_hosts.Given as goal

abbrev pub invariant-loop-place : goal.invariant-loop-place
invariant-loop-place l = shadow (Utf8 l.rest) × Reads l.text l.rest l.hosts l.place
