-- Which items are shapes, and how shapes are written.
use Rattle.std.specs.Prelude.{ℕ, ◌^◌, ◌<◌, ◌∷◌, [], pos, List, Ok, Err}
use Rattle.std.specs.Prelude.{codes, bytes_eq, if◌then◌else◌}
use Rattle.cbor4ii_items.specs.Numbers.{shortest_head}
use Rattle.cbor4ii_tree.specs.Basis.Item.{Item, Items, ItemPairs, integer, text, sequence, mapping}
use Rattle.cbor4ii_tree.specs.Basis.Item.{item}
use Rattle.cbor4ii_tree.specs.Basis.Item.{no_items, item_pair, no_item_pairs}
use Rattle.cbor4ii_ser.specs.Item.{Encoding, encoded, field, variant_encoding}
use Rattle.cbor4ii_ser.specs.Item.{tuple_variant_encoding, struct_encoding}
use Rattle.cbor4ii.specs.Places.{put_only}
use Rattle.cbor4ii.specs.Presence.{both_or_words}
use Rattle.cbor4ii.specs.declared.serde.de.place.Single.{Single}
use Rattle.cbor4ii.specs.declared.serde.de.place.Single.TheVariants.{Absent}
use Rattle.cbor4ii_examples.specs.Told.{Told, told_as, told_then, number_at, text_at, the_one}
use Rattle.cbor4ii_examples.specs.Told.{single_as}
use Rattle.cbor4ii_examples.specs.declared.shape.Frame.{Frame}
use Rattle.cbor4ii_examples.specs.declared.shape.Shape.{Shape, fold-Shape}
use Rattle.cbor4ii_examples.specs.declared.shape.Shape.TheOpen.{Shape-F}

-- ---- shapes

-- a shape, wherever it lies in memory
pub data Figure : Type 0 where
  circle : ℕ → Figure
  pair : Figure → Figure → Figure
  framed : ℕ → Figure → Figure

abbrev pub figure_step : Shape-F Figure → Figure
figure_step (Shape-F.Circle radius) = circle radius
figure_step (Shape-F.Pair first second) = pair first.value second.value
figure_step (Shape-F.Framed width inner) = framed width inner.value

abbrev pub figure : Shape → Figure
figure = fold-Shape Figure figure_step

-- ---- written

-- one shape, with what is written for each shape inside in its place
abbrev pub shape_step : Shape-F Encoding → Encoding
shape_step (Shape-F.Circle radius) =
    variant_encoding (codes "Circle") (encoded (shortest_head 0 radius))
shape_step (Shape-F.Pair first second) =
    tuple_variant_encoding (codes "Pair") (first.value ∷ second.value ∷ [])
shape_step (Shape-F.Framed width inner) = variant_encoding (codes "Framed") (struct_encoding
    (field (codes "width") (encoded (shortest_head 0 width))
    ∷ field (codes "inner") inner.value ∷ []))

abbrev pub shape_item : Shape → Encoding
shape_item = fold-Shape Encoding shape_step

-- ---- read

-- a number below 2^32, in these words where it is another item
abbrev pub small_number_at : List ℕ → Item → Told ℕ
small_number_at = number_at 4294967296

-- the fields of a frame that were seen so far
pub record FrameFields : Type 0 where
  pub width : Single ℕ
  pub inner : Single Figure

abbrev pub frame_fields : Frame → FrameFields
frame_fields f = record { width = f.width; inner = single_as figure f.inner }

abbrev pub nothing_framed : FrameFields
nothing_framed = record { width = Absent; inner = Absent }

-- the fields after one more, of which the figure that its value may stand for is given
abbrev pub with_frame_field : FrameFields → List ℕ → Item → Told Figure → Told FrameFields
with_frame_field s name v inner = if bytes_eq name (codes "width")
    then told_as (λ n. record s { width = put_only n s.width })
    (small_number_at (codes "a width is a number below 2^32") v)
    else (if bytes_eq name (codes "inner")
    then told_as (λ f. record s { inner = put_only f s.inner }) inner
    else Ok s)

abbrev pub with_frame_pair : FrameFields → Item → Item → Told Figure → Told FrameFields
with_frame_pair s k v inner = told_then (λ name. with_frame_field s name v inner)
    (text_at (codes "the name of a field is a text") k)

-- a frame has each of its fields once
abbrev pub frame_from : FrameFields → Told Figure
frame_from s = told_as (λ parts. framed parts.0 parts.1)
    (both_or_words (the_one (codes "a frame has one width") s.width)
    (the_one (codes "a frame has one shape inside") s.inner))

-- the variant of this name, where each is told of the content that is its own
abbrev pub variant_of_name : List ℕ → (circle pair framed : Told Figure) → Told Figure
variant_of_name name c p f = if bytes_eq name (codes "Circle") then c
    else (if bytes_eq name (codes "Pair") then p
    else (if bytes_eq name (codes "Framed") then f else Err (codes "no such shape")))

abbrev pub variant_named : Item → (circle pair framed : Told Figure) → Told Figure
variant_named k c p f = told_then (λ name. variant_of_name name c p f)
    (text_at (codes "the name of a shape is a text") k)

abbrev pub circle_at : Item → Told Figure
circle_at v = told_as circle (small_number_at (codes "a radius is a number below 2^32") v)

-- two figures, where no other stands beside them
abbrev pub pair_told : (first second : Told Figure) → Told Figure
pair_told first second = told_as (λ parts. pair parts.0 parts.1) (both_or_words first second)

-- this, where no other pair or item stands beside it
abbrev pub only_pair : ItemPairs → Told Figure → Told Figure
only_pair no_item_pairs o = o
only_pair (item_pair k v ms) o = Err (codes "a shape is a map of one pair")

abbrev pub only_item : Items → Told Figure → Told Figure
only_item no_items o = o
only_item (item v vs) o = Err (codes "a pair is an array of two")

-- What an item stands for is that of an enum of a number, a tuple of two figures and a struct of a
-- number and a figure, level by level: a map of one pair, the variant's name and its content.
abbrev mutual
  pub figure_at : Item → Told Figure
  figure_at (mapping ms) = figure_in ms
  figure_at _ = Err (codes "a shape is a map of one pair")

  pub figure_in : ItemPairs → Told Figure
  figure_in no_item_pairs = Err (codes "a shape is a map of one pair")
  figure_in (item_pair k v ms) = only_pair ms (variant_named k (circle_at v) (pair_at v)
      (framed_at v))

  pub pair_at : Item → Told Figure
  pair_at (sequence vs) = pair_in vs
  pair_at _ = Err (codes "a pair is an array of two")

  pub pair_in : Items → Told Figure
  pair_in no_items = Err (codes "a pair is an array of two")
  pair_in (item v vs) = second_in vs (figure_at v)

  pub second_in : Items → Told Figure → Told Figure
  second_in no_items first = Err (codes "a pair is an array of two")
  second_in (item v vs) first = only_item vs (pair_told first (figure_at v))

  pub framed_at : Item → Told Figure
  framed_at (mapping ms) = told_then frame_from (frame_pairs_at ms nothing_framed)
  framed_at _ = Err (codes "a frame is a map")

  pub frame_pairs_at : ItemPairs → FrameFields → Told FrameFields
  frame_pairs_at no_item_pairs s = Ok s
  frame_pairs_at (item_pair k v ms) s =
      told_then (frame_pairs_at ms) (with_frame_pair s k v (figure_at v))

-- the variant of this name and content
abbrev pub variant_at : Item → Item → Told Figure
variant_at k v = variant_named k (circle_at v) (pair_at v) (framed_at v)

-- ---- read back

-- the item of a figure: what stands for it, and is written for it
abbrev pub variant_item : List ℕ → Item → Item
variant_item name content = mapping (item_pair (text name) content no_item_pairs)

abbrev pub figure_item : Figure → Item
figure_item (circle radius) = variant_item (codes "Circle") (integer (pos radius))
figure_item (pair first second) = variant_item (codes "Pair")
    (sequence (item (figure_item first) (item (figure_item second) no_items)))
figure_item (framed width inner) = variant_item (codes "Framed")
    (mapping (item_pair (text (codes "width")) (integer (pos width))
    (item_pair (text (codes "inner")) (figure_item inner) no_item_pairs)))

-- each number of the figure is one of the program's
abbrev pub IsFigure : Figure → Type 0
IsFigure (circle radius) = radius < 2 ^ 32
IsFigure (pair first second) = IsFigure first × IsFigure second
IsFigure (framed width inner) = (width < 2 ^ 32) × IsFigure inner
