use Rattle.std.proofs.Common.{◌≡◌, map, sym, ap, ◌∙◌, arith}
use Rattle.feature_model.specs.declared.limits.TheConstants.{NUMBER_END}
use Rattle.feature_store.specs.Indexed.{index_entry}
use Rattle.feature_store.specs.Inside.{entries_data}
use Rattle.feature_store.specs.Reading.{ReaderView, below}
use Rattle.feature_store.specs.Store.{snapshot}
use Rattle.feature_store.proofs.Reading.{all_below, text_read, boxes_read}
use Rattle.feature_store.proofs.moment_reader.MomentReader.read_next.Goals as goal

pub invariant_of-self : goal.invariant_of-self
invariant_of-self c =
    let m = entries_data c.self.inside.features.value.entries in
    let same : c.args.moment.now.features ≡ m = c.requires.same ∙ ap (λ (v : ReaderView). v.features) (sym c.self.view_is) in
    let all : below c.self.inside.from m ≡ m = rw same at c.in_default.ensures.none in
    let read = all ∙ sym (all_below m NUMBER_END c.self.invariant.is_map (omega arith)) in
    record {
      is_map = c.self.invariant.is_map;
      text = c.self.invariant.text ∙ ap snapshot read;
      boxes = c.self.invariant.boxes ∙ ap (map index_entry) read;
      within = omega arith;
    }

pub invariant_of-self-2 : goal.invariant_of-self-2
invariant_of-self-2 c =
    let m = entries_data c.self.inside.features.value.entries in
    let n = c.self.inside.from in
    let same : c.args.moment.now.features ≡ m = c.requires.same ∙ ap (λ (v : ReaderView). v.features) (sym c.self.view_is) in
    let next = rw same at c.in-Some.ensures.found in
    let own = c.in-Some.ensures.own in
    record {
      is_map = c.self.invariant.is_map;
      text = text_read m n c.in-Some.number c.in-Some.had own next c.self.inside.text.items c.append_had.new.text.items c.self.invariant.text
          c.in_ok-append_had.ensures.text;
      boxes = boxes_read m n c.in-Some.number c.in-Some.had own next c.self.inside.boxes.items c.append_had.new.boxes.items c.self.invariant.boxes
          c.in_ok-append_had.ensures.boxes;
      within = omega (arith, c.in-Some.ensures.within);
    }
