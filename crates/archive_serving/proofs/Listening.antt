-- What `serve` did, by its result.
use Rattle.std.proofs.Common.{◌≡◌, ℕ, ◌+◌, ◌<◌, ◌≤◌, ap, Bool, Bor, true, false, List, Option, Some, None, Result, Ok, Err, OnOk, IfErr, ◌⊎◌, option_map, unwrap_or, refl, arith, sym, subst, inl, inr, ⊎_elim}
use Rattle.archive_table.specs.Keeper.{Keeping}
use Rattle.archive_table.specs.Table.{Table}
use Rattle.archive_server.specs.declared.policies.Policies.{Policies}
use Rattle.archive_server.specs.declared.putters.Putters.{Putters}
use Rattle.archive_server.specs.Turn.{MakesMany, MakesOne, TurnOrRound, Server, ServesTurns, count_if, fresh_server, none, more}
use Rattle.std.specs.Io.KnownBytes.{Appends}
use Rattle.archive_wire.specs.Wire.{Entry}
use Rattle.archive_server.proofs.Turns.{many_none, many_more}
use Rattle.archive_serving.specs.declared.turn_limit.TurnLimit.{TurnLimit}
use Rattle.archive_serving.specs.declared.serve.ServeArguments.{ServeArguments}
use Rattle.command_line.specs.declared.tool_fault.ToolFault.{ToolFault}
use Rattle.command_line.specs.declared.tool_fault.ToolFault.TheVariants.{Read, Write, Unreadable, Memory, Socket, Transfer}
use Rattle.archive_serving.specs.Serve.{IsLimitFor, HasHost, HasPolicies, HasPutters, IsNoHost, IsNoPutters, given_putters, RunsUpToWhile, ServeRan, ServedFrom, begun_when, count_of, given_address, turn_of, ServeEnds, ServeFails, Served, ServerServed, serving_line, taken_line}
use Rattle.command_line.specs.Faults.{answer_status, status_of}
use Rattle.archive_arguments.specs.Lines.{LineFails}

module _ (old new : Option (List ℕ)) where
  -- a line that was not written whole: the exit status is 2
  line_status : (line : List ℕ) (a b : Option (List ℕ)) (e : ToolFault) → LineFails line a b e → status_of e ≡ 2
  line_status line a b Read fails = absurd fails
  line_status line a b Write fails = refl
  line_status line a b (Unreadable index fault) fails = absurd fails
  line_status line a b Memory fails = refl
  line_status line a b Socket fails = absurd fails
  line_status line a b (Transfer why) fails = absurd fails

  module _ (port : ℕ) (Unmade Unkept : Type 0) (Made Done : (taken : ℕ) → Type 0) (unkept : Unmade → Unkept) (made : (taken : ℕ) → Made taken → Done taken) where
    -- what a server made of its turns, by what these are
    pub ends_so : (r : Result (Unit {0}) ToolFault) → ServeEnds port Unmade Made old new r → ServeEnds port Unkept Done old new r
    ends_so (Ok done) s = record { taken = s.taken; made = made s.taken s.made; between = s.between; first = s.first; last = s.last }
    ends_so (Err e) fails =
        ⊎_elim (λ first. inl (unkept first.0, first.1))
        (λ last. inr (record {
          taken = last.taken;
          made = made last.taken last.made;
          between = last.between;
          first = last.first;
          fails = last.fails;
        })) fails

  -- after the turns, by the result of the last line
  pub serve_ended : (port asked taken : ℕ) (Unmade : Type 0) (Made : (taken : ℕ) → Type 0) (between : Option (List ℕ)) (r : Result (Unit {0}) ToolFault) →
      asked ≡ port → Appends old between (serving_line asked) → Made taken → OnOk r (Appends between new (taken_line taken)) →
      IfErr r (LineFails (taken_line taken) between new) → ServeEnds port Unmade Made old new r
  serve_ended port asked taken Unmade Made between (Ok done) is first made said fails =
      record { taken = taken; made = made; between = between; first = subst (λ (n : ℕ). Appends old between (serving_line n)) is first; last = said }
  serve_ended port asked taken Unmade Made between (Err e) is first made said fails =
      inr (record { taken = taken; made = made; between = between; first = subst (λ (n : ℕ). Appends old between (serving_line n)) is first; fails = fails })

  -- then the exit status is 2
  fails_status : (port : ℕ) (Unmade : Type 0) (Made : (taken : ℕ) → Type 0) (e : ToolFault) → ServeFails port Unmade Made old new e → status_of e ≡ 2
  fails_status port Unmade Made e fails =
      ⊎_elim (λ first. line_status (serving_line port) old new e first.1)
      (λ last. line_status (taken_line last.taken) last.between new e last.fails) fails

  module _ (port turns : ℕ) (policies : Policies) (start : Table) (before after : Option (List Entry)) (kept now : Option (List Keeping)) where
    usable_served : (r : Result (Unit {0}) ToolFault) →
        ServeEnds port (now ≡ kept) (ServerServed turns policies start true before after kept now) old new r
        → Served port turns policies start (answer_status r) true before after kept now old new
    usable_served (Ok done) serves = record { done = λ e. (refl, serves); failed = λ e. absurd (omega (arith, e)); few = inl refl }
    usable_served (Err e) stops =
        let two = fails_status port (now ≡ kept) (ServerServed turns policies start true before after kept now) e stops in
        record { done = λ z. absurd (omega (arith, z, two)); failed = λ z. inr (inl (e, stops)); few = inr two }

    unknown_served : (r : Result (Unit {0}) ToolFault) →
        ServeEnds port (now ≡ kept) (ServerServed turns policies start false before after kept now) old new r
        → Served port turns policies start 2 false before after kept now old new
    unknown_served (Ok done) serves = record { done = λ z. absurd (omega (arith, z)); failed = λ z. inr (inr (refl, serves)); few = inr refl }
    unknown_served (Err e) stops = record { done = λ z. absurd (omega (arith, z)); failed = λ z. inr (inl (e, stops)); few = inr refl }

    -- no port was opened, and nothing was done
    pub unopened : (usable : Bool) (status : ℕ) → status ≡ 2 → new ≡ old → now ≡ kept → Served port turns policies start status usable before after kept now old new
    unopened usable status two unwritten unkept = record { done = λ z. absurd (omega (arith, z, two)); failed = λ z. inl (unwritten, unkept); few = inr two }

    -- by whether the keeper is usable at the end
    pub served : (usable : Bool) (status : ℕ) (r : Result (Unit {0}) ToolFault) → (usable ≡ true → status ≡ answer_status r) → (usable ≡ false → status ≡ 2)
        → ServeEnds port (now ≡ kept) (ServerServed turns policies start usable before after kept now) old new r
        → Served port turns policies start status usable before after kept now old new
    served true status r is two ends = subst (λ (n : ℕ). Served port turns policies start n true before after kept now old new) (sym (is refl)) (usable_served r ends)
    served false status r is two ends = subst (λ (n : ℕ). Served port turns policies start n false before after kept now old new) (sym (two refl)) (unknown_served r ends)

-- a server makes its turns or rounds
pub server_served : (Begins : Option (List Keeping) → Type 0) (turns : ℕ) (policies : Policies) (start : Table) (usable : Bool) (before after : Option (List Entry)) (kept now : Option (List Keeping))
    (limit : TurnLimit) (first last : Server) → IsLimitFor turns limit → first ≡ fresh_server policies start →
    (taken : ℕ) → RunsUpToWhile Begins limit usable first last taken before after kept now → ServerServed turns policies start usable before after kept now taken
server_served Begins turns policies start usable before after kept now limit first last limit-is fresh taken made = record {
  first = first;
  last = last;
  fresh = fresh;
  limit = limit;
  limit_is = limit-is;
  made = made.runs;
}

-- a service whose server is this one but for its policies, and whose keeper had this
pub served_by : (given made : Server) (port turns : ℕ) (policies : Policies) (status : ℕ) (usable : Bool) (before after : Option (List Entry)) (was kept now : Option (List Keeping)) (old new : Option (List ℕ)) →
    made ≡ record given { policies = policies } → given.table.request ≡ port → was ≡ kept →
    Served made.table.request turns made.policies made.table status usable before after was now old new →
    Served port turns policies given.table status usable before after kept now old new
served_by given made port turns policies status usable before after was kept now old new made-is port-is kept-is served =
    let by_server : Served given.table.request turns policies given.table status usable before after was now old new =
    subst (λ (s : Server). Served s.table.request turns s.policies s.table status usable before after was now old new) made-is served in
    let by_port : Served port turns policies given.table status usable before after was now old new =
    subst (λ (p : ℕ). Served p turns policies given.table status usable before after was now old new) port-is by_server in
    subst (λ (k : Option (List Keeping)). Served port turns policies given.table status usable before after k now old new) kept-is by_port

-- ---- where it serves

-- an address that was given is one
some_host : (given : Option (List ℕ)) (host : ℕ) → HasHost given host → IsNoHost given → ⊥
some_host None host is never = never
some_host (Some address) host is never = omega (arith, is.1, never host is.0)

-- hosts that were given are a list
some_putters : (given : Option (List ℕ)) (putters : Putters) → HasPutters given putters → IsNoPutters given → ⊥
some_putters None putters are never = never
some_putters (Some text) putters are never = never are.0 are.1

-- a server that served, or was not loaded, ends with status 0 or 2
served_few : (arguments : ServeArguments) (status : ℕ) (old new : Option (List ℕ)) → ServedFrom arguments status old new → (status ≡ 0) ⊎ (status ≡ 2)
served_few arguments status old new served = ⊎_elim (λ serves. serves.5.few) (λ unloaded. inr unloaded.0) served

-- a server at the host of the address that was given, by the policies that were
pub serve_ran : (arguments : ServeArguments) (status host : ℕ) (policies : Policies) (old new : Option (List ℕ)) → HasHost (given_address arguments) host →
    HasPolicies arguments policies → ServedFrom arguments status old new → ServeRan arguments status old new
serve_ran arguments status host policies old new is has served =
    let few = served_few arguments status old new served in
    record {
      bad = (
        λ one. absurd (⊎_elim (λ zero_is. omega (arith, one, zero_is)) (λ two_is. omega (arith, one, two_is)) few),
        λ never. absurd (⊎_elim (some_host (given_address arguments) host is) (some_putters (given_putters arguments) policies.putters has.putters_are) never),
      );
      nowhere = λ one. absurd (⊎_elim (λ zero_is. omega (arith, one, zero_is)) (λ two_is. omega (arith, one, two_is)) few);
      served = λ other. served;
    }

-- nothing is served at a text that is no address, or for hosts that are no list
pub serve_nowhere : (arguments : ServeArguments) (status : ℕ) (held : Option (List ℕ)) → status ≡ 1 → IsNoHost (given_address arguments) ⊎ IsNoPutters (given_putters arguments) → ServeRan arguments status held held
serve_nowhere arguments status held one never = record { bad = (λ is. never, λ is. one); nowhere = λ is. refl; served = λ other. absurd (other one) }

-- the name of a folder, if there is one
pub name_given : (folder : Option (Bor (List ℕ))) (other name : Bor (List ℕ)) → name ≡ unwrap_or folder other → name.now ≡ unwrap_or (option_map (λ (n : Bor (List ℕ)). n.now) folder) other.now
name_given None other name is = ap (λ (n : Bor (List ℕ)). n.now) is
name_given (Some folder) other name is = ap (λ (n : Bor (List ℕ)). n.now) is

-- ---- turns and rounds

-- whatever held when they began, they were made
begun_served : (Begins : Option (List Keeping) → Type 0) (Is : TurnOrRound) {count : ℕ} {old new : Server} {taken : ℕ} {calls : List Entry} {kept now : Option (List Keeping)}
    → ServesTurns (begun_when Begins Is) count old new taken calls kept now → ServesTurns Is count old new taken calls kept now
begun_served Begins Is (none s kept) = none s kept
begun_served Begins Is (more took so_far one) = more took (begun_served Begins Is so_far) one.1

-- each of them begins when this holds of what the keeper has
module _ (Begins : Option (List Keeping) → Type 0) where
  -- so many of them were made
  turns_while : (limit : TurnLimit) (usable : Bool) (count : ℕ) (old new : Server) (taken : ℕ) (before after : Option (List Entry)) (kept now : Option (List Keeping)) → count ≤ count_of limit
      → MakesMany (begun_when Begins (turn_of limit)) count old new taken before after kept now → (usable ≡ false) ⊎ (count ≡ count_of limit)
      → RunsUpToWhile Begins limit usable old new taken before after kept now
  turns_while limit usable count old new taken before after kept now most begun ends = record {
    runs = record {
      count = count;
      most = most;
      made = record { calls = begun.calls; served = begun_served Begins (turn_of limit) begun.served; grows = begun.grows };
      ends = ends;
    };
    begun = begun;
  }

  -- in the middle of them
  pub record MakesSome (limit : TurnLimit) (count : ℕ) (old new : Server) (taken : ℕ) (before after : Option (List Entry)) (kept now : Option (List Keeping)) : Type 0 where
    pub made : MakesMany (begun_when Begins (turn_of limit)) count old new taken before after kept now
    pub few : taken ≤ count
    pub begins : Begins now

  pub some_none : (limit : TurnLimit) (s : Server) (log : Option (List Entry)) (kept : Option (List Keeping)) → Begins kept → MakesSome limit 0 s s 0 log log kept kept
  some_none limit s log kept begins = record { made = many_none (begun_when Begins (turn_of limit)) s log kept; few = omega arith; begins = begins }

  module _ {before mid after : Option (List Entry)} {kept midst now : Option (List Keeping)} (limit : TurnLimit) (n taken count : ℕ) (old between new : Server) where
    -- one more of them
    one_more : MakesSome limit n old between taken before mid kept midst
        → ((took : Bool) × MakesOne (turn_of limit) between new took mid after midst now × (count ≡ count_if took taken)) →
        MakesMany (begun_when Begins (turn_of limit)) (n + 1) old new count before after kept now
    one_more so_far turn =
        many_more (begun_when Begins (turn_of limit)) n taken count turn.0 old between new so_far.made (record { calls = turn.1.calls; made = (so_far.begins, turn.1.made); grows = turn.1.grows }) turn.2

    pub some_more : MakesSome limit n old between taken before mid kept midst
        → ((took : Bool) × MakesOne (turn_of limit) between new took mid after midst now × (count ≡ count_if took taken)) →
        count ≤ taken + 1 → Begins now → MakesSome limit (n + 1) old new count before after kept now
    some_more so_far turn few begins = record { made = one_more so_far turn; few = omega (arith, so_far.few, few); begins = begins }

    -- a turn after which the keeper is not usable
    pub turns_ended : (usable : Bool) (end : ℕ) → end ≡ count_of limit → n < end → MakesSome limit n old between taken before mid kept midst
        → ((took : Bool) × MakesOne (turn_of limit) between new took mid after midst now × (count ≡ count_if took taken)) → usable ≡ false →
        RunsUpToWhile Begins limit usable old new count before after kept now
    turns_ended usable end end-is few so_far turn is =
        turns_while limit usable (n + 1) old new count before after kept now (omega (arith, end-is, few)) (one_more so_far turn) (inl is)

  -- no turn is made with a keeper that is not usable
  pub turns_unmade : (limit : TurnLimit) (usable : Bool) (s : Server) (log : Option (List Entry)) (kept : Option (List Keeping)) → usable ≡ false → RunsUpToWhile Begins limit usable s s 0 log log kept kept
  turns_unmade limit usable s log kept is = turns_while limit usable 0 s s 0 log log kept kept (omega arith) (many_none (begun_when Begins (turn_of limit)) s log kept) (inl is)

  -- all of them were made
  pub turns_made : (limit : TurnLimit) (usable : Bool) (n : ℕ) (old new : Server) (taken : ℕ) (before after : Option (List Entry)) (kept now : Option (List Keeping)) → n ≡ count_of limit →
      MakesSome limit n old new taken before after kept now → RunsUpToWhile Begins limit usable old new taken before after kept now
  turns_made limit usable n old new taken before after kept now is so_far = turns_while limit usable n old new taken before after kept now (omega (arith, is)) so_far.made (inr is)
