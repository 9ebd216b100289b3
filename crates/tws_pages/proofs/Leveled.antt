-- Lists of levels as they are read, and what is written by them.
use Rattle.std.proofs.Common.{◌≡◌, ℕ, ◌∷◌, ◌++◌, ◌||◌, Bool, List, [], length, append_assoc, ap, refl, map, Option, None, Some}
use Rattle.std.specs.List.{list_any}
use Rattle.std.specs.Prelude.{option_map}
use Rattle.std.specs.Option.{option_map_or}
use Rattle.csv.specs.Machine.{Read}
use Rattle.csv.specs.Records.{trimmed}
use Rattle.tws_file.specs.declared.«ruleset».Ruleset.{Ruleset}
use Rattle.tws_file.specs.Text.{Record}
use Rattle.tws_pages.specs.declared.level.Level.{Level}
use Rattle.tws_pages.specs.Page.{counts, heading}
use Rattle.tws_pages.specs.SetName.{first_name}
use Rattle.tws_tables.specs.Solved.{solutions_in, total_ticks}
use Rattle.tws_pages.specs.LevelTable.{level_section_head, level_table_head, solved_count, solved_line}

-- ---- fields

pub fields_read : (o : Option Read) (fields : List (List ℕ)) → Some fields ≡ option_map (λ p. p.0) o → map trimmed fields ≡ option_map_or (λ p. map trimmed p.0) o []
fields_read None fields is = absurd cc
fields_read (Some p) fields is = let same : fields ≡ p.0 = cc in ap (map trimmed) same

pub fields_none : (o : Option Read) → None ≡ option_map (λ p. p.0) o → [] ≡ option_map_or (λ p. map trimmed p.0) o []
fields_none None is = refl
fields_none (Some p) is = absurd cc

-- ---- tests

pub any_map : {X Y : Type 0} (p : Y → Bool) (h : X → Y) (xs : List X) → list_any (λ (x : X). p (h x)) xs ≡ list_any p (map h xs)
any_map p h [] = refl
any_map p h (x ∷ xs) = ap (λ (b : Bool). p (h x) || b) (any_map p h xs)

-- ---- the head of a section

four_parts : (old a b c d : List ℕ) → old ++ a ++ b ++ c ++ d ≡ old ++ (a ++ b ++ c ++ d)
four_parts old a b c d = simp append_assoc

pub level_head : (levels : List Level) (rules : Ruleset) (records : List Record) (name : Option (List ℕ)) (count solutions ticks : ℕ) (old one two three whole : List ℕ)
    → name ≡ first_name records → count ≡ solved_count levels records → solutions ≡ length (solutions_in records) → ticks ≡ total_ticks (solutions_in records)
    → one ≡ old ++ heading rules name → two ≡ one ++ solved_line count (length levels) → three ≡ two ++ counts solutions ticks → whole ≡ three ++ level_table_head
    → whole ≡ old ++ level_section_head levels rules records
unfolding level_section_head
level_head levels rules records name count solutions ticks old one two three whole name-is count-is solutions-is ticks-is one-is two-is three-is whole-is =
    rw (whole-is, three-is, two-is, one-is, name-is, count-is, solutions-is, ticks-is)
    (four_parts old (heading rules (first_name records)) (solved_line (solved_count levels records) (length levels))
    (counts (length (solutions_in records)) (total_ticks (solutions_in records))) level_table_head)
