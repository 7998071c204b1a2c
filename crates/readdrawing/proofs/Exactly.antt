-- Exactly the texts that write drawing's layout gives are read. Assumes nothing.
use Rattle.std.proofs.Common.{ℕ, ◌+◌, ◌≤◌, ◌≡◌, refl, sym, ap, ◌∙◌, subst, List, [], ◌∷◌, ◌++◌, Some, None, arith, eq-eqb, eqb-true, eqb, zero-add, length, length-append, replicate, ext_get_or}
use Rattle.std.proofs.lemmas.Option.{option_and_then_some}
use Rattle.counting.specs.Below.{join_below}
use Rattle.counting.proofs.Iterate.{by_bool}
use Rattle.text.specs.Keys.{wire_key}
use Rattle.text.specs.Shapes.{with_one, one_of}
use Rattle.text.specs.Written.{line}
use Rattle.layout.specs.Layout.{Stands, Same}
use Rattle.layout.proofs.Standing.{stands_left, stands_right, stands_append, one_number, three_numbers}
use Rattle.drawing.specs.declared.VertexSegment.{VertexSegment}
use Rattle.drawing.specs.declared.EdgeSegment.{EdgeSegment}
use Rattle.drawing.specs.declared.Drawing.{Drawing}
use Rattle.drawing.specs.Draw.{no_vertex_segment, no_edge_segment}
use Rattle.drawing.specs.Write.{rows_key, columns_key, bar_key, vertex_line, edge_line, drawing_text}
use Rattle.readdrawing.specs.Lines.{plain_line_at}
use Rattle.readdrawing.specs.Reading.{entries_from, vertex_entry, edge_entry, whole, segments_at, drawing_of_text}
use Rattle.readdrawing.specs.Laws.{Shows, ReadDrawingLaw}
use Rattle.readdrawing.proofs.Turns.{one_read, one_is}
use Rattle.readdrawing.proofs.Plain.{plain_back, plain_only}
use Rattle.readdrawing.proofs.Entries.{Kind, line_of, Entries, entries_back, entries_only}

abbrev bars : Kind VertexSegment
bars = record {
  key = bar_key;
  unused = no_vertex_segment;
  entry = vertex_entry;
  numbers = λ v. v.row ∷ v.first ∷ v.last ∷ [];
  numbers_of = λ a b c. refl;
  back = λ v. refl;
}

abbrev wires : Kind EdgeSegment
wires = record {
  key = wire_key;
  unused = no_edge_segment;
  entry = edge_entry;
  numbers = λ e. e.column ∷ e.low ∷ e.high ∷ [];
  numbers_of = λ a b c. refl;
  back = λ e. refl;
}

-- a text stands in itself, and a text of its length that stands in it is the same
stands_all : (text : List ℕ) → Stands text 0 text
stands_all text = record { room = omega arith; each = λ i h. rw zero-add refl }

same_text : (text ds : List ℕ) → Stands text 0 ds → length ds ≡ length text → text ≡ ds
same_text text ds H e = ext_get_or 0 text ds (sym e) (λ i h. rw zero-add at (H.each i (omega arith)))

module _ (text : List ℕ) (n m : ℕ) where
  -- the parts of a text that shows a drawing: its two counts, its bars and its wires, and where they end
  record Parts (D : Drawing) (next after on last : ℕ) : Type 0 where
    rows : Same text 0 (D.rows ∷ []) (line rows_key (D.rows ∷ [])) next
    columns : Same text next (D.columns ∷ []) (line columns_key (D.columns ∷ [])) after
    vertices : Entries bars text after 128 D.vertices n on
    edges : Entries wires text on 256 D.edges m last
    end : last ≡ length text

  module _ (D : Drawing) where
    abbrev first : List ℕ
    first = line rows_key (D.rows ∷ [])

    abbrev second : List ℕ
    second = line columns_key (D.columns ∷ [])

    abbrev third : List ℕ
    third = join_below (line_of bars D.vertices) n

    abbrev fourth : List ℕ
    fourth = join_below (line_of wires D.edges) m

    parts_of : Shows n m text D → Parts D (length first) (length (first ++ second)) (length (first ++ second ++ third)) (length (first ++ second ++ third ++ fourth))
    unfolding drawing_text vertex_line edge_line
    parts_of S =
        let W = S.writable in
        let whole' : Stands text 0 (first ++ second ++ third ++ fourth) = subst (Stands text 0) S.written (stands_all text) in
        let front = stands_left (first ++ second ++ third) fourth whole' in
        let counts = stands_left (first ++ second) third front in
        record {
          rows = record { numerals = one_number D.rows W.rows; holds = stands_left first second counts; place = omega arith };
          columns = record { numerals = one_number D.columns W.columns; holds = rw zero-add at (stands_right first second counts); place = length-append first second };
          vertices = record {
            sized = W.vertex_entries;
            unused = W.unused_vertices;
            small = λ v h. let s = W.vertices v h in three_numbers _ _ _ s.row s.first s.last;
            stands = rw zero-add at (stands_right (first ++ second) third front);
            place = length-append (first ++ second) third;
          };
          edges = record {
            sized = W.edge_entries;
            unused = W.unused_edges;
            small = λ k h. let s = W.edges k h in three_numbers _ _ _ s.column s.low s.high;
            stands = rw zero-add at (stands_right (first ++ second ++ third) fourth whole');
            place = length-append (first ++ second ++ third) fourth;
          };
          end = ap length (sym S.written);
        }

    shows_of : {next after on last : ℕ} → Parts D next after on last → Shows n m text D
    unfolding drawing_text vertex_line edge_line
    shows_of {next} {after} {on} {last} P =
        let counts : Stands text 0 (first ++ second) = stands_append first second P.rows.holds (subst (λ i. Stands text i second) P.rows.place P.columns.holds) in
        let to : after ≡ 0 + length (first ++ second) = omega (arith, P.rows.place, P.columns.place, length-append first second) in
        let front : Stands text 0 (first ++ second ++ third) = stands_append (first ++ second) third counts (subst (λ i. Stands text i third) to P.vertices.stands) in
        let to' : on ≡ 0 + length (first ++ second ++ third) = omega (arith, P.vertices.place, length-append (first ++ second) third) in
        let all : Stands text 0 (first ++ second ++ third ++ fourth) = stands_append (first ++ second ++ third) fourth front (subst (λ i. Stands text i fourth) to' P.edges.stands) in
        record {
          written = same_text text (first ++ second ++ third ++ fourth) all (omega (arith, P.end, P.edges.place, length-append (first ++ second ++ third) fourth));
          writable = record {
            vertex_entries = P.vertices.sized;
            edge_entries = P.edges.sized;
            rows = P.rows.numerals.small 0 (omega arith);
            columns = P.columns.numerals.small 0 (omega arith);
            vertices = λ v h. let s = (P.vertices.small v h).small in record { row = s 0 (omega arith); first = s 1 (omega arith); last = s 2 (omega arith) };
            edges = λ k h. let s = (P.edges.small k h).small in record { column = s 0 (omega arith); low = s 1 (omega arith); high = s 2 (omega arith) };
            unused_vertices = P.vertices.unused;
            unused_edges = P.edges.unused;
          };
        }

    read_back : n ≤ 128 → m ≤ 256 → {next after on last : ℕ} → Parts D next after on last → drawing_of_text text n m ≡ Some D
    unfolding drawing_of_text segments_at whole with_one
    read_back few few' {next} {after} {on} {last} P =
        rw (
          plain_back rows_key text 0 (D.rows ∷ []) next P.rows,
          plain_back columns_key text next (D.columns ∷ []) after P.columns,
          entries_back bars text after 128 D.vertices n on few P.vertices,
          entries_back wires text on 256 D.edges m last few' P.edges,
          eq-eqb last (length text) P.end,
        ) refl

  read_only : n ≤ 128 → m ≤ 256 → (D : Drawing) → drawing_of_text text n m ≡ Some D → Shows n m text D
  unfolding drawing_of_text segments_at whole
  read_only few few' D e =
      option_and_then_some _ (one_of (plain_line_at rows_key text 0)) D (sym (one_read _ (plain_line_at rows_key text 0)) ∙ e) (λ r p f.
      option_and_then_some _ (one_of (plain_line_at columns_key text r.1)) D (sym (one_read _ (plain_line_at columns_key text r.1)) ∙ f) (λ c q g.
      option_and_then_some _ (entries_from bar_key vertex_entry n text (replicate 128 no_vertex_segment) 0 c.1) D g (λ v b h.
      option_and_then_some _ (entries_from wire_key edge_entry m text (replicate 256 no_edge_segment) 0 v.1) D h (λ w k j.
      by_bool (eqb w.1 (length text))
      (λ t.
      let all : Drawing = record { rows = r.0; columns = c.0; vertices = v.0; edges = w.0 } in
      let same : all ≡ D = cc (rw t at j) in
      let row_line = plain_only rows_key text 0 (r.0 ∷ []) r.1 (one_is (plain_line_at rows_key text 0) p) in
      let column_line = plain_only columns_key text r.1 (c.0 ∷ []) c.1 (one_is (plain_line_at columns_key text r.1) q) in
      let vertices = entries_only bars text c.1 128 n v.0 v.1 few (omega (arith, column_line.holds.room, column_line.place)) b in
      let edges = entries_only wires text v.1 256 m w.0 w.1 few' (omega (arith, vertices.stands.room, vertices.place)) k in
      subst (Shows n m text) same (shows_of all (record { rows = row_line; columns = column_line; vertices = vertices; edges = edges; end = eqb-true w.1 (length text) t })))
      (λ t. let none : None ≡ Some D = rw t at j in cc)))))

pub read_drawing_law : ReadDrawingLaw
read_drawing_law text n m few few' D = (read_only text n m few few' D, λ S. read_back text n m D few few' (parts_of text n m D S))
