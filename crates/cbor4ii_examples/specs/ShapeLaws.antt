-- That what is written for a shape is read back.
use Rattle.std.proofs.Common.{◌≡◌, Ok, refl, ap₂, subst, arith, rules}
use Rattle.std.proofs.lemmas.Bool.{lt-ltb}
use Rattle.std.specs.Prelude.{codes}
use Rattle.cbor4ii_ser.specs.Item.{Encoding}
use Rattle.cbor4ii.specs.Held.{IsWrittenAs}
use Rattle.cbor4ii.specs.Laws.Held.{unsigned_as, no_parts, part_before, no_pairs_written}
use Rattle.cbor4ii.specs.Laws.Held.{field_before}
use Rattle.cbor4ii.specs.Laws.Held.{struct_as, variant_as, tuple_variant_as}
use Rattle.cbor4ii.specs.declared.serde.de.place.Single.TheVariants.{Absent, Present}
use Rattle.cbor4ii_examples.specs.Told.{IsToldBack}
use Rattle.cbor4ii_examples.specs.Shape.{Figure, circle, pair, framed, figure_step, figure}
use Rattle.cbor4ii_examples.specs.Shape.{shape_step, shape_item, figure_at, pair_told}
use Rattle.cbor4ii_examples.specs.Shape.{figure_item, IsFigure}
use Rattle.cbor4ii_examples.specs.declared.shape.Shape.{Shape, roll-Shape, map-Shape}
use Rattle.cbor4ii_examples.specs.declared.shape.Shape.TheFolds.{ind-Shape, fold-roll-Shape}
use Rattle.cbor4ii_examples.specs.declared.shape.Shape.TheOpen.{Shape-F}

-- ---- the item of a figure stands for it

figure_read : (f : Figure) → IsFigure f → figure_at (figure_item f) ≡ Ok f
figure_read (circle radius) h = search rules
figure_read (pair first second) h =
    ap₂ pair_told (figure_read first h.0) (figure_read second h.1)
figure_read (framed width inner) h =
    search (rules, Present, Absent, lt-ltb, (figure_read inner h.1))

-- ---- a shape is written as the item of its figure

abbrev FigureIsWritten : Encoding → Figure → Type 0
FigureIsWritten encoding f = IsFigure f → IsWrittenAs encoding (figure_item f)

abbrev IsShapeWritten : Shape → Type 0
IsShapeWritten s = FigureIsWritten (shape_item s) (figure s)

module _ {E : Type 0} (f : E → Shape) (written : (e : E) → IsShapeWritten (f e)) where
  one_written : (y : Shape-F E) → FigureIsWritten
      (shape_step (map-Shape Shape Encoding shape_item (map-Shape E Shape f y)))
      (figure_step (map-Shape Shape Figure figure (map-Shape E Shape f y)))
  one_written (Shape-F.Circle radius) h =
      variant_as (codes "Circle") refl (unsigned_as radius (omega (arith, h)))
  one_written (Shape-F.Pair first second) h =
      search (rules, tuple_variant_as, part_before, no_parts)
  one_written (Shape-F.Framed width inner) h =
      variant_as (codes "Framed") refl (struct_as
      (field_before (codes "width") refl (unsigned_as width (omega (arith, h.0)))
      (field_before (codes "inner") refl (written inner.value h.1) no_pairs_written)) (omega arith))

  rolled_written : (y : Shape-F E) → IsShapeWritten (roll-Shape (map-Shape E Shape f y))
  rolled_written y = search (rules, fold-roll-Shape, one_written)

shape_written : (s : Shape) → IsShapeWritten s
shape_written = ind-Shape IsShapeWritten (λ x y is.
    subst (λ z. IsShapeWritten (roll-Shape z)) is (rolled_written (λ e. e.0) (λ e. e.1) y))

-- a shape is read back
pub shape_back : IsToldBack figure_at figure shape_item figure_item IsFigure
shape_back = record { written = shape_written; read = figure_read }
