use Rattle.std.proofs.Common.{◌≡◌, ℕ, zero, suc, ◌+◌, ◌-◌, ◌<◌, ◌/◌, ◌%◌, refl, sym, ap, ◌∙◌, subst}
use Rattle.std.proofs.Common.{arith, rules}
use Rattle.cbor4ii_items.specs.Initial.{Info, wide, info_of, int_by_info, string_by_info, Sign}
use Rattle.cbor4ii_items.specs.Initial.{unsigned, negative, Kind, byte_string, text_string}
use Rattle.cbor4ii_items.specs.Initial.{simple_by_info, by_major, initial}
use Rattle.cbor4ii_tree.specs.Inner.Skipping.{additional_of, start_of}
use Rattle.cbor4ii_tree.specs.declared.skip.initial.Start.TheVariants.{Bytes, Content}
use Rattle.cbor4ii_tree.specs.declared.skip.initial.Additional.TheVariants.{Wide}
use Rattle.cbor4ii_tree.proofs.skip.initial.start_of.Goals as goal

by_parts : (b : ℕ) → initial b ≡ by_major (b / 32) (b % 32)
unfolding initial
by_parts b = refl

int_starts : (s : Sign) (i : Info) (count : ℕ) → Wide count ≡ additional_of i
    → Bytes count ≡ start_of (int_by_info s i)
int_starts s (wide w) count e = cc
int_starts s _ count e = cc

string_starts : (k : Kind) (i : Info) (count : ℕ) → Wide count ≡ additional_of i
    → Content ≡ start_of (string_by_info k i)
string_starts k (wide w) count e = refl
string_starts k _ count e = cc

low_starts : (major i count : ℕ) → major < 2 → Wide count ≡ additional_of (info_of i)
    → Bytes count ≡ start_of (by_major major i)
low_starts zero i count lt e = int_starts unsigned (info_of i) count e
low_starts (suc zero) i count lt e = int_starts negative (info_of i) count e
low_starts (suc (suc major)) i count lt e = absurd (omega arith)

middle_starts : (k i count : ℕ) → k < 2 → Wide count ≡ additional_of (info_of i)
    → Content ≡ start_of (by_major (2 + k) i)
middle_starts zero i count lt e = string_starts byte_string (info_of i) count e
middle_starts (suc zero) i count lt e = string_starts text_string (info_of i) count e
middle_starts (suc (suc k)) i count lt e = absurd (omega arith)

simple_starts : (k : ℕ) → k < 4 → Bytes 0 ≡ start_of (simple_by_info (20 + k))
simple_starts (suc (suc (suc (suc k)))) lt = absurd (omega arith)
simple_starts _ lt = refl

pub returns-in-Wide-info-3 : goal.returns-in-Wide-info-3
returns-in-Wide-info-3 c =
    low_starts (c.args.first / 32) (c.args.first % 32) c.in-Wide-info-3.count
    (omega arith) c.in-Wide-info-3.ensures ∙ ap start_of (sym (by_parts c.args.first))

pub returns-in-Wide-info-4 : goal.returns-in-Wide-info-4
returns-in-Wide-info-4 c =
    let major : 2 + (c.args.first / 32 - 2) ≡ c.args.first / 32 = omega arith in
    subst (λ m. Content ≡ start_of (by_major m (c.args.first % 32))) major
    (middle_starts (c.args.first / 32 - 2) _ c.in-Wide-info-4.field-0 (omega arith)
    c.in-Wide-info-4.ensures) ∙ ap start_of (sym (by_parts c.args.first))

pub returns-in-20 : goal.returns-in-20
returns-in-20 c = search (rules, simple_starts, by_parts)
