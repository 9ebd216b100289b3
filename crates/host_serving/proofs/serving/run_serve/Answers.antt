use Rattle.std.proofs.Common.{inl, inr}
use Rattle.archive_serving.proofs.Listening.{serve_nowhere, serve_ran}
use Rattle.host_serving.proofs.serving.run_serve.Goals as goal

pub returns-in_default-clause-ran : goal.returns-in_default-clause-ran
returns-in_default-clause-ran g c = serve_nowhere _ _ _ c.bad_address.ensures.status (inl c.in_default.ensures.none)

pub returns-in_default-policies-clause-ran : goal.returns-in_default-policies-clause-ran
returns-in_default-policies-clause-ran g c = serve_nowhere _ _ _ c.bad_address-in_default-policies.ensures.status (inr c.in_default-policies.ensures.none)

pub returns-clause-ran : goal.returns-clause-ran
returns-clause-ran g c = serve_ran _ _ _ _ _ _ c.in-Some.ensures.some c.in-Some-policies.ensures.some c.serve.ensures.served
