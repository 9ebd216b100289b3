-- The sample of a sync is one.
use Rattle.std.proofs.Common.{◌≡◌, ℕ, ◌==◌, Bool, true, List, [], ◌∷◌, ◌++◌, if◌then◌else◌, None, Some, refl, ap, sym, ◌∙◌, subst, append-nil, append_assoc}
use Rattle.tftp_packet.specs.Packet.{encode}
use Rattle.tftp_packet.specs.Decode.{decode_bytes}
use Rattle.tftp_packet.specs.Blocks.{block_of}
use Rattle.tws_file.specs.declared.«ruleset».Ruleset.{Ruleset}
use Rattle.tws_file.specs.declared.«ruleset».Ruleset.TheVariants.{Lynx}
use Rattle.tws_file.specs.Text.{File}
use Rattle.tws_best.specs.Best.{KeyedBody, Collected, IsCollected, collection_text, solved_in, solved_by}
use Rattle.tws_best.specs.Choice.{best_of}
use Rattle.tws_best.proofs.Texts.{file_from, is_text, file_solves, file_rules}
use Rattle.tws_best.proofs.Members.{Contains-here}
use Rattle.tws_compare.specs.Compare.{rows_of, better_entries, better_of}
use Rattle.tws_compare.specs.Counts.{counts_of}
use Rattle.tws_compare.specs.Part.{IsBetterPart, HasNothingBetter}
use Rattle.archive_sync.specs.News.{Told, IsTold}
use Rattle.archive_table.specs.Table.{empty_maps}
use Rattle.archive_model.specs.World.{World, WorldStep, server_endpoint, start, happens, HasMerged, AllMerged}
use Rattle.archive_theorem.specs.Samples.{sample_file, sample_client, sample_maps, restart_between}
use Rattle.archive_theorem.proofs.Port_Endpoints.{own-if}
use Rattle.archive_theorem.proofs.Sample_Files.{sample_collected_100, hundred-first}
use Rattle.archive_theorem.proofs.Sample_Premises.{restart_between-meets}
use Rattle.archive_theorem.proofs.Sample_Takings.{merged-by}
use Rattle.archive_mirrors.specs.Archives.{Event}
use Rattle.mirror_worlds.specs.Worlds.{JointStep, plain, after_step, MayJoin, HasFetched, TakesText, Matches}
use Rattle.mirror_worlds.specs.Sample.{joint_run, steps_at, empty_then_put, before_put, taking, theirs, mine, SyncCanHappen}
use Rattle.mirror_worlds.proofs.Making.{start-matches, step-joins}

-- ---- steps one after another

abbrev AllJoin : List JointStep → (ℕ → World) → Type 0
AllJoin [] ws = Unit {0}
AllJoin (s ∷ steps) ws = MayJoin s ws × AllJoin steps (after_step s ws)

joined : (steps : List JointStep) (ws : ℕ → World) (events : List Event) → Matches ws events → AllJoin steps ws →
    (more : List Event) × Matches (joint_run steps ws) (events ++ more)
joined [] ws events m joins = ([], subst (Matches ws) (sym (append-nil events)) m)
joined (s ∷ steps) ws events m joins =
    let first = step-joins ws events s m joins.0 in
    let rest = joined steps (after_step s ws) (events ++ first.more) first.matches joins.1 in
    (first.more ++ rest.0, subst (Matches (joint_run steps (after_step s ws))) (append_assoc events first.more rest.0) rest.1)

join-append : (xs ys : List JointStep) (ws : ℕ → World) → AllJoin xs ws → AllJoin ys (joint_run xs ws) → AllJoin (xs ++ ys) ws
join-append [] ys ws joins more = more
join-append (s ∷ xs) ys ws joins more = (joins.0, join-append xs ys (after_step s ws) joins.1 more)

-- those of one archive
join-at : (archive : ℕ) → (archive == archive) ≡ true → (steps : List WorldStep) (ws : ℕ → World) → AllMerged steps (ws archive) →
    AllJoin (steps_at archive steps) ws
join-at archive same [] ws m = tt
join-at archive same (s ∷ steps) ws m = (
  record { merged = m.0; kind = tt },
  join-at archive same steps (after_step (record { archive = archive; step = s; kind = plain }) ws)
      (subst (λ (b : Bool). AllMerged steps (if b then happens s (ws archive) else ws archive)) (sym same) m.1),
)

-- ---- the sample

abbrev nothing : ℕ → World
nothing = λ archive. start

matched : (events : List Event) × Matches before_put events
unfolding encode decode_bytes block_of
matched =
    let between = joint_run (steps_at 1 restart_between) nothing in
    let first = join-at 1 refl restart_between nothing restart_between-meets.1 in
    let second = join-at 2 refl empty_then_put between (merged-by empty_then_put start tt) in
    joined (steps_at 1 restart_between ++ steps_at 2 empty_then_put) nothing [] (start-matches (λ archive. server_endpoint))
    (join-append (steps_at 1 restart_between) (steps_at 2 empty_then_put) nothing first second)

have_theirs : HasFetched before_put theirs
unfolding encode decode_bytes block_of
have_theirs = record { among = Contains-here theirs.got []; own = own-if (before_put 1) (sample_client 2) refl }

have_mine : HasFetched before_put mine
unfolding encode decode_bytes block_of
have_mine = record { among = Contains-here mine.got []; own = own-if (before_put 2) (sample_client 1) refl }

merges : HasMerged taking (before_put 2)
unfolding encode decode_bytes block_of
merges = (merged-by (taking ∷ []) (before_put 2) (hundred-first, tt)).0

takes : TakesText taking (before_put 2) (sample_file 100)
unfolding encode decode_bytes block_of
takes = record { file = record { peer = sample_client 2; file = sample_file 100 }; is_taken = refl; text_is = refl }

-- ---- what they tell

empty_fits : IsCollected empty_maps.lynx
empty_fits = record { rising = tt; solved = tt }

abbrev my_file : File
my_file = file_from (sample_maps 100).lynx sample_collected_100

abbrev their_file : File
their_file = file_from empty_maps.lynx empty_fits

abbrev told : Told
told = record { forth = Some (sample_file 100); back = None; counts = counts_of (rows_of my_file their_file) }

-- what such a file solves
solved : (c : Collected) (fits : IsCollected c) → c.ruleset ≡ Lynx → solved_in (file_from c fits).records ≡ c.entries
solved c fits lynx =
    let file = file_from c fits in
    let By : Ruleset → Ruleset → Type 0 = λ k its. solved_by k its file.records ++ [] ≡ c.entries in
    sym (append-nil (solved_in file.records)) ∙ subst (λ (k : Ruleset). By k k) lynx (subst (By c.ruleset) (file_rules c fits) (file_solves c fits))

my_solved : solved_in my_file.records ≡ (sample_maps 100).lynx.entries
my_solved = solved (sample_maps 100).lynx sample_collected_100 refl

their_solved : solved_in their_file.records ≡ []
their_solved = solved empty_maps.lynx empty_fits refl

same_rules : my_file.ruleset ≡ their_file.ruleset
same_rules = file_rules (sample_maps 100).lynx sample_collected_100 ∙ sym (file_rules empty_maps.lynx empty_fits)

-- what is better of a file with the first solutions than one with the second ones
abbrev better : Ruleset → (first second : List KeyedBody) → Collected
better rules first second =
    record { «ruleset» = rules; entries = better_entries (record { mine = best_of first; theirs = best_of second }) }

all_better : collection_text (better_of my_file their_file) ≡ sample_file 100
all_better =
    ap (λ (k : Ruleset). collection_text (better k (solved_in my_file.records) (solved_in their_file.records)))
    (file_rules (sample_maps 100).lynx sample_collected_100) ∙
    ap (λ (xs : List KeyedBody). collection_text (better Lynx xs (solved_in their_file.records))) my_solved ∙
    ap (λ (ys : List KeyedBody). collection_text (better Lynx (sample_maps 100).lynx.entries ys)) their_solved

forth : IsBetterPart (sample_file 100) (collection_text empty_maps.lynx) (sample_file 100)
forth =
    record {
      my_file = my_file;
      their_file = their_file;
      my_text = is_text (sample_maps 100).lynx sample_collected_100;
      their_text = is_text empty_maps.lynx empty_fits;
      same = same_rules;
      text_is = sym all_better;
    }

back : HasNothingBetter (collection_text empty_maps.lynx) (sample_file 100)
back =
    record {
      my_file = their_file;
      their_file = my_file;
      my_text = is_text empty_maps.lynx empty_fits;
      their_text = is_text (sample_maps 100).lynx sample_collected_100;
      same = sym same_rules;
      none = ap (λ (xs : List KeyedBody). (better their_file.ruleset xs (solved_in my_file.records)).entries) their_solved;
    }

is_told : IsTold (sample_file 100) (collection_text empty_maps.lynx) told
is_told =
    record {
      forth_is = forth;
      back_is = back;
      counted = record {
        mine = my_file;
        theirs = their_file;
        my_text = is_text (sample_maps 100).lynx sample_collected_100;
        their_text = is_text empty_maps.lynx empty_fits;
        same = same_rules;
        counts_are = refl;
      };
    }

pub sync-can : SyncCanHappen
sync-can =
    record {
      events = matched.0;
      matches = matched.1;
      both = record { fetched = have_theirs; own_fetched = have_mine; own_is = refl; text_is = refl; own_text_is = refl };
      told = told;
      is_told = is_told;
      forth = refl;
      back = refl;
      merged = merges;
      takes = takes;
    }
