-- A map that is read by hand.
use Rattle.std.proofs.Common.{◌≡◌, ◌≢◌, ◌⊎◌, inl, ℕ, ◌+◌, List, [], ◌∷◌, ◌++◌, drop, take, max}
use Rattle.std.proofs.Common.{Option, None, Some, true, false, refl, sym, ap, ◌∙◌, subst, rules}
use Rattle.std.specs.Prelude.{codes}
use Rattle.std.specs.Option.{is_some}
use Rattle.std.specs.declared.alloc.Global.{Global}
use Rattle.std.specs.declared.string.String.{String}
use Rattle.cbor4ii_rw.specs.View.{View}
use Rattle.cbor4ii_items.specs.declared.types.Tag.{Tag}
use Rattle.cbor4ii_items.specs.Head.{break}
use Rattle.cbor4ii_items.specs.Budget.{CostFits}
use Rattle.cbor4ii_items.specs.Containers.{ReadsTag}
use Rattle.cbor4ii_items.specs.Decoding.{Sound}
use Rattle.cbor4ii_items.specs.Lengths.{ReadsLength}
use Rattle.cbor4ii_items.specs.Moves.{Kept}
use Rattle.cbor4ii_items.specs.Numbers.{ReadsUnsigned}
use Rattle.cbor4ii_items.specs.Sequences.{ReadsElements, Unbroken}
use Rattle.cbor4ii_items.specs.Strings.{ReadsBreak, ReadsTextAs, text_content}
use Rattle.cbor4ii_items.specs.Laws.Pairs.{pair_sound}
use Rattle.cbor4ii_items.specs.Laws.Prefixes.{drop_more}
use Rattle.cbor4ii_items.specs.Laws.SequenceParts.{fits_max, parts_then}
use Rattle.cbor4ii_items.specs.Laws.Steps.{kept_then}
use Rattle.cbor4ii_examples.specs.declared.by_hand.Record.{Record}
use Rattle.cbor4ii_examples.specs.ByHand.{Part, number, named, ReadsUnderKey, ReadsPart, Seen}
use Rattle.cbor4ii_examples.specs.ByHand.{none_seen, and_seen, seen_after, ReadsMap, ReadsRecord}
use Rattle.cbor4ii_examples.specs.ByHand.{counted, other_key, part_missing}

-- ---- pairs, one after another

-- the pairs from here to there are known, and these are the last number and name of them
pub record SeenSoFar (here there : View) (seen : Seen) : Type 0 where
  pub kept : Kept here there
  pub parts : List Part
  pub read : Sound (ReadsElements (Unbroken ReadsPart)) here there parts
  pub last : seen ≡ seen_after none_seen parts

pub nothing_seen : (a : View) → SeenSoFar a a none_seen
nothing_seen a = search rules

seen_more : (seen : Seen) (parts : List Part) (part : Part)
    → seen_after seen (parts ++ part ∷ []) ≡ and_seen (seen_after seen parts) part
seen_more seen [] part = refl
seen_more seen (p ∷ parts) part = seen_more (and_seen seen p) parts part

-- what stands under a key that is known
pub number_under : {key : List ℕ} {a b : View} {k : ℕ} → key ≡ codes "id"
    → Sound (ReadsUnsigned 8) a b k → Sound (ReadsUnderKey key) a b (number k)
number_under is s = record {
  at = λ xs known. let u = s.at xs known in record {
    count = u.count;
    cost = u.cost;
    read = (is, u.read);
    fits = u.fits;
    left = u.left;
  };
}

pub name_under : {key : List ℕ} {a b : View} {tagged : Tag (String Global)} → key ≡ codes "name"
    → Sound (λ xs (v : Tag (String Global)). ReadsTag (ReadsTextAs text_content) xs v.0 v.1) a b
    tagged → Sound (ReadsUnderKey key) a b (named tagged.1)
name_under {tagged = tagged} is s = record {
  at = λ xs known. let u = s.at xs known in record {
    count = u.count;
    cost = u.cost;
    read = (is, tagged.0, u.read);
    fits = u.fits;
    left = u.left;
  };
}

-- no break comes, but a key, and what stands under it
pub one_more : {a l m n b : View} {seen : Seen} {key : String Global} {part : Part}
    → SeenSoFar a l seen → Kept l m → Sound ReadsBreak l m false → Kept m n
    → Sound (ReadsTextAs text_content) m n key → Kept n b
    → Sound (ReadsUnderKey (text_content key)) n b part → SeenSoFar a b (and_seen seen part)
one_more {l = l} {b = b} {key = key} {part = part} s one stays two name three under =
    let pair = pair_sound (ReadsTextAs text_content) (ReadsUnderKey (text_content key)) two name under
    in
    let whole : Sound (Unbroken ReadsPart) l b part = record {
      at = λ xs known.
          let f = stays.at xs known in
          let u = pair.at xs (f.left ∙ ap (λ j. Some (drop j xs)) f.read.2) in
          record {
            count = u.count;
            cost = u.cost;
            read = (f.read.1, (key, u.read));
            fits = subst (CostFits u.cost) one.budget u.fits;
            left = u.left;
          };
    } in
    record {
      kept = kept_then s.kept (kept_then one (kept_then two three));
      parts = s.parts ++ part ∷ [];
      read = parts_then (Unbroken ReadsPart) s.kept.budget s.read whole refl;
      last = ap (λ z. and_seen z part) s.last ∙ sym (seen_more none_seen s.parts part);
    }

-- ---- a whole map, and what is no record

module _ {a m l : View} {seen : Seen} (kept : Kept a m) (head : Sound (ReadsLength 5) a m None)
    (s : SeenSoFar m l seen) where
  -- the break comes
  pub whole_map : {b : View} → Sound ReadsBreak l b true → Sound ReadsMap a b seen
  whole_map ends = record {
    at = λ xs known.
        let h = head.at xs known in
        let u = s.read.at (drop h.count xs) h.left in
        let e = ends.at (drop u.count (drop h.count xs)) u.left in
        let first : drop h.count xs ≡ drop 1 xs = ap (λ j. drop j xs) h.read.1 in
        record {
          count = 1 + (u.count + 1);
          cost = u.cost;
          read = record {
            parts = s.parts;
            map = record {
              begins = h.read.0;
              between = u.count + 1;
              parts = record {
                allowed = inl refl;
                between = u.count;
                parts = subst
                    (λ ys. ReadsElements (Unbroken ReadsPart) ys s.parts u.count u.cost) first
                    u.read;
                ends = subst (λ ys. take 1 (drop u.count ys) ≡ break ∷ []) first e.read.0;
                size = refl;
              };
              size = refl;
            };
            last = s.last;
          };
          fits = subst (CostFits u.cost) kept.budget u.fits;
          left = e.left ∙ ap Some (ap (λ j. drop j (drop u.count (drop h.count xs))) e.read.1
              ∙ (drop_more 1 u.count (drop h.count xs)
              ∙ (ap (drop (u.count + 1)) first ∙ drop_more (u.count + 1) 1 xs)));
        };
  }

  -- another key comes
  pub none_by_key : {n b : View} {key : String Global} → Kept l n → Sound ReadsBreak l n false
      → Sound (ReadsTextAs text_content) n b key → text_content key ≢ codes "id"
      → text_content key ≢ codes "name" → Sound ReadsRecord a b None
  none_by_key {key = key} one stays name no_id no_name = record {
    at = λ xs known.
        let h = head.at xs known in
        let u = s.read.at (drop h.count xs) h.left in
        let f = stays.at (drop u.count (drop h.count xs)) u.left in
        let k = name.at (drop u.count (drop h.count xs))
        (f.left ∙ ap (λ j. Some (drop j (drop u.count (drop h.count xs)))) f.read.2) in
        let first : drop h.count xs ≡ drop 1 xs = ap (λ j. drop j xs) h.read.1 in
        record {
          count = 1 + (u.count + k.count);
          cost = max u.cost k.cost;
          read = other_key (record {
            begins = h.read.0;
            parts = s.parts;
            between = u.count;
            between_cost = u.cost;
            before = subst (λ ys. ReadsElements (Unbroken ReadsPart) ys s.parts u.count u.cost)
                first u.read;
            key = key;
            size = k.count;
            cost = k.cost;
            read = subst
                (λ ys. ReadsTextAs text_content (drop u.count ys) key k.count k.cost) first k.read;
            other = (no_id, no_name);
            taken = refl;
            greater = refl;
          });
          fits = fits_max u.cost k.cost a.budget (subst (CostFits u.cost) kept.budget u.fits)
              (subst (CostFits k.cost) (one.budget ∙ (s.kept.budget ∙ kept.budget)) k.fits);
          left = k.left ∙ ap Some (drop_more k.count u.count (drop h.count xs)
              ∙ (ap (drop (u.count + k.count)) first ∙ drop_more (u.count + k.count) 1 xs));
        };
  }

-- the head counts the pairs, or not
pub none_by_length : {a m : View} (pairs : Option ℕ) → is_some pairs ≡ true
    → Sound (ReadsLength 5) a m pairs → Sound ReadsRecord a m None
none_by_length None some head = cc
none_by_length (Some pairs) some head = record {
  at = λ xs known. let h = head.at xs known in record {
    count = h.count;
    cost = h.cost;
    read = counted pairs h.read;
    fits = h.fits;
    left = h.left;
  };
}

pub not_counted : {a m : View} (pairs : Option ℕ) → is_some pairs ≡ false
    → Sound (ReadsLength 5) a m pairs → Sound (ReadsLength 5) a m None
not_counted None none head = head
not_counted (Some pairs) none head = cc

-- the whole map came, with both or without one of them
pub some_record : {a b : View} {id : Option ℕ} {name : Option (String Global)} {r : Record}
    → id ≡ Some r.id → name ≡ Some r.name → Sound ReadsMap a b (record { id = id; name = name })
    → Sound ReadsRecord a b (Some r)
some_record {id = id} {name = name} {r = r} is named_so map =
    let both : (record { id = id; name = name }) ≡ (record { id = Some r.id; name = Some r.name }) =
    cc in
    record {
      at = λ xs known. let u = map.at xs known in record {
        count = u.count;
        cost = u.cost;
        read = subst (λ z. ReadsMap xs z u.count u.cost) both u.read;
        fits = u.fits;
        left = u.left;
      };
    }

pub none_by_part : {a b : View} {seen : Seen} → (seen.id ≡ None) ⊎ (seen.name ≡ None)
    → Sound ReadsMap a b seen → Sound ReadsRecord a b None
none_by_part {seen = seen} missing map = record {
  at = λ xs known. let u = map.at xs known in record {
    count = u.count;
    cost = u.cost;
    read = part_missing seen u.read missing;
    fits = u.fits;
    left = u.left;
  };
}
