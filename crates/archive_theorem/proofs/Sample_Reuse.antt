-- The sample runs that reuse a port: another client's reuse harms nobody else, and each part of own ports is needed.
use Rattle.std.proofs.Common.{◌≡◌, ℕ, zero, suc, true, false, List, [], ◌∷◌, Contains, slice_get, Some, refl, ap, sym, ◌∙◌}
use Rattle.tftp_packet.specs.Packet.{encode}
use Rattle.tftp_packet.specs.Decode.{decode_bytes}
use Rattle.tftp_packet.specs.Blocks.{block_of}
use Rattle.tws_file.specs.declared.«ruleset».Ruleset.TheVariants.{Lynx}
use Rattle.archive_table.specs.Table.{Taken}
use Rattle.archive_client.specs.Client.{put, get}
use Rattle.archive_model.specs.World.{Begun, World, to_write, start, run, AllMerged}
use Rattle.archive_theorem.specs.Headline.{IsOwn, HasOwnPorts, ClientHeadline}
use Rattle.archive_theorem.specs.Samples.{sample_client, plain_steps, reused_elsewhere, begun_twice, opened_twice, strayed_there, FailsBy, summary_of, one_put_summary, sample_opening}
use Rattle.archive_model.proofs.Places.{Has-contains, Has-from_contains}
use Rattle.archive_theorem.proofs.Sample_Takings.{merged-by}
use Rattle.archive_theorem.proofs.Port_Endpoints.{own-if}
use Rattle.archive_theorem.proofs.Sample_Put.{empty_merged}
use Rattle.archive_theorem.proofs.Sample_Files.{hundred-first}
use Rattle.archive_theorem.proofs.Sample_Premises.{not_next}

-- ---- another client reuses its endpoint

-- its outcome
pub reused_elsewhere-comes : summary_of (run reused_elsewhere) ≡ one_put_summary 6 (sample_opening 1 4000 to_write 0 ∷ [])
unfolding encode decode_bytes block_of
reused_elsewhere-comes = refl

-- a port is reused in it
reused_elsewhere-breaks : HasOwnPorts (run reused_elsewhere) → ⊥
unfolding encode decode_bytes block_of
reused_elsewhere-breaks own = not_next 0 (own.operations 0 1 _ _ refl refl refl)

-- but not by the client that puts its file
reused_elsewhere-own : IsOwn (run reused_elsewhere) (sample_client 1)
unfolding encode decode_bytes block_of
reused_elsewhere-own = own-if (run reused_elsewhere) (sample_client 1) refl

reused_elsewhere-merged : AllMerged reused_elsewhere start
unfolding encode decode_bytes block_of
reused_elsewhere-merged = merged-by reused_elsewhere start (hundred-first, tt)

-- so the premises for that client are met
pub reused_elsewhere-meets : (HasOwnPorts (run reused_elsewhere) → ⊥) × IsOwn (run reused_elsewhere) (sample_client 1) × AllMerged reused_elsewhere start
reused_elsewhere-meets = (reused_elsewhere-breaks, reused_elsewhere-own, reused_elsewhere-merged)

-- ---- each part is needed

-- one file taken from the client twice
twice_taken : (w : World) (t u : Taken) → slice_get w.taken 0 ≡ Some t → slice_get w.taken 1 ≡ Some u → t.peer ≡ sample_client 1 →
    u.peer ≡ sample_client 1 → ClientHeadline w.past (sample_client 1) → ⊥
twice_taken w t u first second mine also h = not_next 0 (h.once 0 1 t u first second mine also)

-- the file without bytes, from the client
abbrev bare_put : Taken
bare_put = record { peer = sample_client 1; file = [] }

begun_twice-merged : AllMerged (plain_steps begun_twice) start
unfolding encode decode_bytes block_of
begun_twice-merged = merged-by (plain_steps begun_twice) start (empty_merged, (empty_merged, tt))

-- a client's headline may fail if two operations begin at its endpoint
pub begun_twice-fails : FailsBy begun_twice (record { once = false; apart = true; unstrayed = true })
unfolding encode decode_bytes block_of
begun_twice-fails =
    record {
      merged = begun_twice-merged;
      tested = refl;
      fails = twice_taken (run (plain_steps begun_twice)) bare_put bare_put refl refl refl refl;
    }

opened_twice-merged : AllMerged (plain_steps opened_twice) start
unfolding encode decode_bytes block_of
opened_twice-merged = merged-by (plain_steps opened_twice) start (empty_merged, (empty_merged, tt))

-- it may fail if a port is opened for it twice
pub opened_twice-fails : FailsBy opened_twice (record { once = true; apart = false; unstrayed = true })
unfolding encode decode_bytes block_of
opened_twice-fails =
    record {
      merged = opened_twice-merged;
      tested = refl;
      fails = twice_taken (run (plain_steps opened_twice)) bare_put bare_put refl refl refl refl;
    }

-- a get is no put
not_put : (file : List ℕ) → get Lynx ≡ put file → ⊥
not_put file e = cc

only_one : (b c : Begun) (i : ℕ) → slice_get (b ∷ []) i ≡ Some c → b ≡ c
only_one b c zero is = cc
only_one b c (suc i) is = absurd cc

-- the one operation there is no put
none_put : (w : World) (b : Begun) (t : Taken) → w.begun ≡ b ∷ [] → b.operation ≡ get Lynx → Contains w.taken t → t.peer ≡ sample_client 1 →
    ClientHeadline w.past (sample_client 1) → ⊥
none_put w b t only gets among mine h =
    let by = h.unchanged t among mine in
    let has = Has-from_contains w.begun by.0 by.1 in
    let same : b ≡ by.0 = only_one b by.0 has.position (ap (λ (l : List Begun). slice_get l has.position) (sym only) ∙ has.is) in
    not_put t.file (sym gets ∙ ap (λ (x : Begun). x.operation) same ∙ by.3)

-- the get that has begun
abbrev one_get : Begun
one_get = record { client = sample_client 1; operation = get Lynx; taken = 1 }

strayed_there-merged : AllMerged (plain_steps strayed_there) start
unfolding encode decode_bytes block_of
strayed_there-merged = merged-by (plain_steps strayed_there) start (empty_merged, tt)

-- it may fail if a stranger sends from its endpoint
pub strayed_there-fails : FailsBy strayed_there (record { once = true; apart = true; unstrayed = false })
unfolding encode decode_bytes block_of
strayed_there-fails =
    record {
      merged = strayed_there-merged;
      tested = refl;
      fails = none_put (run (plain_steps strayed_there)) one_get bare_put refl refl
          (Has-contains (bare_put ∷ []) bare_put (record { position = 0; is = refl })) refl;
    }
