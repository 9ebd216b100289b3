use Rattle.std.proofs.Common.{rules, ◌≡◌, ◌≤◌, List, Option, None, Some, IfNone, ℕ, string_bytes, subst, sym}
use Rattle.archive_arguments.specs.Address.{IsAddress}
use Rattle.archive_serving.specs.Serve.{IsNoHost, first_group, given_address}
use Rattle.archive_arguments.proofs.Addresses.{one_host}
use Rattle.archive_serving.proofs.serve.ServeArguments.host.Goals as goal

pub returns-in-None-clause-none : goal.returns-in-None-clause-none
returns-in-None-clause-none c =
    let text : c.as_str.result.now ≡ string_bytes c.in-Some.text = search rules in
    rw c.in-Some.is (λ host spelled. absurd (c.in-None.ensures.none host (subst (λ (t : List ℕ). IsAddress t host) (sym text) spelled)))

-- what follows where there is no value
none_weaker : {A P Q : Type 0} (found : Option A) → (P → Q) → IfNone found P → IfNone found Q
none_weaker None then why = then why
none_weaker (Some value) then why = why

pub returns-in-Some-read-clause-none : goal.returns-in-Some-read-clause-none
returns-in-Some-read-clause-none c =
    let text : c.as_str.result.now ≡ string_bytes c.in-Some.text = search rules in
    let none : first_group ≤ c.in-Some-read.address.host → IsNoHost (given_address c.args.self.now) =
    λ group. rw c.in-Some.is (λ host spelled. subst (λ (h : ℕ). first_group ≤ h) (one_host _ c.in-Some-read.address.host host c.in-Some-read.ensures.some (subst (λ (t : List ℕ). IsAddress t host) (sym text) spelled)) group) in
    none_weaker c.of_one_host.result none c.of_one_host.ensures.none
