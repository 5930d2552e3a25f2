use Rattle.std.proofs.Common.{◌≡◌, ◌∙◌, ◌++◌, [], List, ℕ, ap, sym}
use Rattle.std.proofs.lemmas.List.{append-nil}
use Rattle.kishu_language.specs.tokens.Names.{is_among}
use Rattle.kishu_store.specs.Tables.{Table, bytes_in, names_in, put_rows}
use Rattle.kishu_store_laws.specs.WalkLaws.{rows_left}
use Rattle.kishu_graph.specs.Fits.{rows_of}
use Rattle.kishu_graph.specs.Walks.{all_texts, rows_in}
use Rattle.kishu_graph.proofs.Apart.{names-put}
use Rattle.kishu_graph.proofs.Gone.{append_same}
use Rattle.kishu_graph.proofs.RowsLeft.{left-all, room-after}
use Rattle.kishu_graph.proofs.TablesThatFit.{bytes_put}
use Rattle.kishu_graph.proofs.heads.HeadRows.store.Goals as goal

pub returns-clause-stores : goal.returns-clause-stores
returns-clause-stores c t whole h put k =
    let rows = rows_of c.args.rows.now in
    let none : all_texts c.new-none.result.keys ≡ [] = ap all_texts c.new-none.ensures.empty in
    let stay : rows_left (all_texts c.new-none.result.keys) rows ≡ rows = ap (λ (l : List (List ℕ)). rows_left l rows) none ∙ left-all rows in
    let led : put_rows (rows_left (all_texts c.new-none.result.keys) rows ++ []) (rows_in c.args.self.now.rows.entries) ≡ whole =
    ap (λ (l : Table). put_rows (l ++ []) (rows_in c.args.self.now.rows.entries)) stay ∙ ap (λ (l : Table). put_rows l (rows_in c.args.self.now.rows.entries)) (append-nil rows) ∙ ap (put_rows rows) h.rows ∙ put in
    let all = bytes_put rows t in
    let bytes = ap bytes_in put in
    record {
      rows = c.in_ok-find_rows.ensures.found [] whole k.rise led;
      names = λ x.
          c.in_ok-put_names_of.ensures x
          ∙ append_same (names_in rows) (all_texts c.args.self.now.names.keys) (names_in t) h.names x
          ∙ sym ((names-put rows t).same x)
          ∙ ap (λ (u : Table). is_among x (names_in u)) put;
      room = room-after c.args.self.now.room (bytes_in t) (bytes_in rows) (bytes_in whole) c.room_behind_rows.result c.unwrap_or-self.result (sym bytes ∙ all) h.room k.small c.room_behind_rows.ensures c.unwrap_or-self.ensures;
    }
