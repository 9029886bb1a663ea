-- Sheets that are accepted, with their text, and sheets that are refused. Each differs from the usual one in few slots.
use Rattle.std.specs.Prelude.{◌≡◌, ◌++◌, refl, codes, Some, None, Option, option_map, ⊤}
use Rattle.std.proofs.Common.{ap}
use Rattle.ax_values.specs.Grammar.{Line}
use Rattle.ax_sheet_rules.specs.Shape.{sheet_in}
use Rattle.ax_sheet_writing.specs.Text.{expr_data, rule_data, rules_data, template_data, command_data, act_data, upcaster_data, changes_data, handler_data, saga_data, head_data, sheet_data, sheet_text}
use Rattle.ax_sheet.proofs.Ascii.{ascii_sheet}
use Rattle.ax_sheet.proofs.OnLiterals.{sheets_on_literals}

unfoldable sheets_and_texts : ⊤
unfolding sheets_on_literals expr_data rule_data rules_data template_data command_data act_data upcaster_data changes_data handler_data saga_data head_data sheet_data sheet_text
sheets_and_texts = tt

-- what is read and written again
abbrev again : Line → Option Line
again text = option_map sheet_text (sheet_in text)

-- the slots of a sheet's text
record Slots : Type 0 where
  name : Line
  revision : Line
  fields : Line
  set : Line
  announce : Line
  guard : Line
  events : Line
  upcast : Line
  applied : Line
  handler : Line
  last : Line

abbrev usual : Slots
usual = record {
  name = codes "\"sheet\":\"s\"";
  revision = codes "1";
  fields = codes "\"n\":0";
  set = codes "\"n\"";
  announce = codes "";
  guard = codes "\"<\",\"n\"";
  events = codes "\"a\":\"$a\",\"t\":\"$t\"";
  upcast = codes "\"upcast\":[],";
  applied = codes "\"announce\":true";
  handler = codes "\"by\":\"@\",\"start\":true,\"send\":[[\"make\",\"@\",{\"a\":1,\"t\":\"x\"}]]";
  last = codes "";
}

-- a text with these slots
abbrev given : Slots → Line
given s =
    codes "{" ++ s.name ++ codes ",\"revision\":" ++ s.revision ++ codes ",\"aggregate\":{\"fields\":{" ++ s.fields ++ codes "},\"on\":{\"made\":{\"sets\":{\"n\":[\"+\"," ++ s.set ++ codes ",1]}"
    ++ s.announce ++ codes "}}},\"commands\":{\"make\":{\"params\":{\"a\":\"int\",\"t\":\"text\"},\"guards\":[[" ++ s.guard ++ codes ",2]],\"events\":[[\"made\",1,{" ++ s.events ++ codes "}]]}}," ++ s.upcast
    ++ codes "\"projections\":{\"p\":{\"fields\":{\"k\":5},\"on\":{\"made\":{" ++ s.applied ++ codes "}}}},\"sagas\":{\"g\":{\"fields\":{},\"on\":{\"made\":{" ++ s.handler ++ codes "}}}}" ++ s.last ++ codes "}"

-- the text that is written, with the same slots
abbrev written : Slots → Line
written s =
    codes "{\"aggregate\":{\"fields\":{\"n\":0},\"on\":{\"made\":{\"sets\":{\"n\":[\"+\"," ++ s.set ++ codes ",1]}}}},\"commands\":{\"make\":{\"events\":[[\"made\",1,{" ++ s.events
    ++ codes "}]],\"guards\":[[" ++ s.guard ++ codes ",2]],\"params\":{\"a\":\"int\",\"t\":\"text\"}}},\"projections\":{\"p\":{\"fields\":{\"k\":5},\"on\":{\"made\":{" ++ s.applied
    ++ codes "}}}},\"revision\":" ++ s.revision ++ codes ",\"sagas\":{\"g\":{\"fields\":{},\"on\":{\"made\":{" ++ s.handler ++ codes "}}}}," ++ s.name ++ codes "," ++ s.upcast ++ codes "}"

-- the slots as they are written
abbrev canonical : Slots
canonical = record usual {
  upcast = codes "\"upcast\":[]";
  handler = codes "\"by\":\"@\",\"send\":[[\"make\",\"@\",{\"a\":1,\"t\":\"x\"}]],\"start\":true";
}

abbrev spaced_text : Line
spaced_text = codes "{\"sheet\": \"s\", \"revision\": 1, \"aggregate\": {\"fields\": {\"n\": 0}, \"on\": {\"made\": {\"sets\": {\"n\": [\"+\", \"n\", 1]}}}}, \"commands\": {\"make\": {\"params\": {\"a\": \"int\", \"t\": \"text\"}, \"guards\": [[\"<\", \"n\", 2]], \"events\": [[\"made\", 1, {\"a\": \"$a\", \"t\": \"$t\"}]]}}, \"upcast\": [], \"projections\": {\"p\": {\"fields\": {\"k\": 5}, \"on\": {\"made\": {\"announce\": true}}}}, \"sagas\": {\"g\": {\"fields\": {}, \"on\": {\"made\": {\"by\": \"@\", \"start\": true, \"send\": [[\"make\", \"@\", {\"a\": 1, \"t\": \"x\"}]]}}}}}"

sheet_plain : again spaced_text ≡ Some (written canonical)
unfolding sheets_and_texts
sheet_plain = ap (option_map sheet_text) (ascii_sheet spaced_text refl)

sheet_more : again (given (record usual { last = codes ",\"x\":1" })) ≡ None
unfolding sheets_and_texts
sheet_more = ap (option_map sheet_text) (ascii_sheet (given (record usual { last = codes ",\"x\":1" })) refl)

sheet_no_upcast : again (given (record usual { upcast = codes "" })) ≡ None
unfolding sheets_and_texts
sheet_no_upcast = ap (option_map sheet_text) (ascii_sheet (given (record usual { upcast = codes "" })) refl)

sheet_revision_float : again (given (record usual { revision = codes "1.0" })) ≡ None
unfolding sheets_and_texts
sheet_revision_float = ap (option_map sheet_text) (ascii_sheet (given (record usual { revision = codes "1.0" })) refl)

sheet_announce_aggregate : again (given (record usual { announce = codes ",\"announce\":false" })) ≡ None
unfolding sheets_and_texts
sheet_announce_aggregate = ap (option_map sheet_text) (ascii_sheet (given (record usual { announce = codes ",\"announce\":false" })) refl)

sheet_announce_false : again (given (record usual { applied = codes "\"announce\":false" })) ≡ Some (written (record canonical { applied = codes "" }))
unfolding sheets_and_texts
sheet_announce_false = ap (option_map sheet_text) (ascii_sheet (given (record usual { applied = codes "\"announce\":false" })) refl)

sheet_fields_9 : again (given (record usual { fields = codes "\"f0\":0,\"f1\":0,\"f2\":0,\"f3\":0,\"f4\":0,\"f5\":0,\"f6\":0,\"f7\":0,\"n\":0" })) ≡ None
unfolding sheets_and_texts
sheet_fields_9 = ap (option_map sheet_text) (ascii_sheet (given (record usual { fields = codes "\"f0\":0,\"f1\":0,\"f2\":0,\"f3\":0,\"f4\":0,\"f5\":0,\"f6\":0,\"f7\":0,\"n\":0" })) refl)

sheet_depth_8 : again (given (record usual { set = codes "[\"+\",[\"+\",[\"+\",[\"+\",[\"+\",[\"+\",\"n\",1],1],1],1],1],1]" })) ≡ Some (written (record canonical { set = codes "[\"+\",[\"+\",[\"+\",[\"+\",[\"+\",[\"+\",\"n\",1],1],1],1],1],1]" }))
unfolding sheets_and_texts
sheet_depth_8 = ap (option_map sheet_text) (ascii_sheet (given (record usual { set = codes "[\"+\",[\"+\",[\"+\",[\"+\",[\"+\",[\"+\",\"n\",1],1],1],1],1],1]" })) refl)

sheet_depth_9 : again (given (record usual { set = codes "[\"+\",[\"+\",[\"+\",[\"+\",[\"+\",[\"+\",[\"+\",\"n\",1],1],1],1],1],1],1]" })) ≡ None
unfolding sheets_and_texts
sheet_depth_9 = ap (option_map sheet_text) (ascii_sheet (given (record usual { set = codes "[\"+\",[\"+\",[\"+\",[\"+\",[\"+\",[\"+\",[\"+\",\"n\",1],1],1],1],1],1],1]" })) refl)

sheet_guard_text_param : again (given (record usual { guard = codes "\"=\",\"$t\"" })) ≡ None
unfolding sheets_and_texts
sheet_guard_text_param = ap (option_map sheet_text) (ascii_sheet (given (record usual { guard = codes "\"=\",\"$t\"" })) refl)

sheet_events_9 : again (given (record usual { events = codes "}],[\"made\",1,{}],[\"made\",1,{}],[\"made\",1,{}],[\"made\",1,{}],[\"made\",1,{}],[\"made\",1,{}],[\"made\",1,{}],[\"made\",1,{" })) ≡ None
unfolding sheets_and_texts
sheet_events_9 = ap (option_map sheet_text) (ascii_sheet (given (record usual { events = codes "}],[\"made\",1,{}],[\"made\",1,{}],[\"made\",1,{}],[\"made\",1,{}],[\"made\",1,{}],[\"made\",1,{}],[\"made\",1,{}],[\"made\",1,{" })) refl)

sheet_given_dollar : again (given (record usual { events = codes "\"x\":\"$\",\"y\":\"$-\",\"z\":\"$ a\"" })) ≡ Some (written (record canonical { events = codes "\"x\":\"$\",\"y\":\"$-\",\"z\":\"$ a\"" }))
unfolding sheets_and_texts
sheet_given_dollar = ap (option_map sheet_text) (ascii_sheet (given (record usual { events = codes "\"x\":\"$\",\"y\":\"$-\",\"z\":\"$ a\"" })) refl)

sheet_default_copy : again (given (record usual { upcast = codes "\"upcast\":[{\"from\":[\"made\",1],\"do\":[\"default\",\"a\",\"$b\",2]}]," })) ≡ None
unfolding sheets_and_texts
sheet_default_copy = ap (option_map sheet_text) (ascii_sheet (given (record usual { upcast = codes "\"upcast\":[{\"from\":[\"made\",1],\"do\":[\"default\",\"a\",\"$b\",2]}]," })) refl)

sheet_items_9_then_none : again (given (record usual { upcast = codes "\"upcast\":[{\"from\":[\"made\",1],\"do\":[\"split\",[[\"x\",1,{}],[\"x\",1,{}],[\"x\",1,{}]]]},{\"from\":[\"x\",1],\"do\":[\"split\",[[\"y\",1,{}],[\"y\",1,{}],[\"y\",1,{}]]]},{\"from\":[\"y\",1],\"do\":[\"remove\"]}]," })) ≡ None
unfolding sheets_and_texts
sheet_items_9_then_none = ap (option_map sheet_text) (ascii_sheet (given (record usual { upcast = codes "\"upcast\":[{\"from\":[\"made\",1],\"do\":[\"split\",[[\"x\",1,{}],[\"x\",1,{}],[\"x\",1,{}]]]},{\"from\":[\"x\",1],\"do\":[\"split\",[[\"y\",1,{}],[\"y\",1,{}],[\"y\",1,{}]]]},{\"from\":[\"y\",1],\"do\":[\"remove\"]}]," })) refl)

sheet_items_before : again (given (record usual { upcast = codes "\"upcast\":[{\"from\":[\"x\",1],\"do\":[\"split\",[[\"y\",1,{}],[\"y\",1,{}],[\"y\",1,{}]]]},{\"from\":[\"made\",1],\"do\":[\"split\",[[\"x\",1,{}],[\"x\",1,{}],[\"x\",1,{}]]]}]," })) ≡ Some (written (record canonical { upcast = codes "\"upcast\":[{\"do\":[\"split\",[[\"y\",1,{}],[\"y\",1,{}],[\"y\",1,{}]]],\"from\":[\"x\",1]},{\"do\":[\"split\",[[\"x\",1,{}],[\"x\",1,{}],[\"x\",1,{}]]],\"from\":[\"made\",1]}]" }))
unfolding sheets_and_texts
sheet_items_before = ap (option_map sheet_text) (ascii_sheet (given (record usual { upcast = codes "\"upcast\":[{\"from\":[\"x\",1],\"do\":[\"split\",[[\"y\",1,{}],[\"y\",1,{}],[\"y\",1,{}]]]},{\"from\":[\"made\",1],\"do\":[\"split\",[[\"x\",1,{}],[\"x\",1,{}],[\"x\",1,{}]]]}]," })) refl)

sheet_send_kind : again (given (record usual { handler = codes "\"by\":\"@\",\"start\":true,\"send\":[[\"make\",\"@\",{\"a\":\"1\",\"t\":\"x\"}]]" })) ≡ None
unfolding sheets_and_texts
sheet_send_kind = ap (option_map sheet_text) (ascii_sheet (given (record usual { handler = codes "\"by\":\"@\",\"start\":true,\"send\":[[\"make\",\"@\",{\"a\":\"1\",\"t\":\"x\"}]]" })) refl)

sheet_empty_optionals : again (given (record usual { handler = codes "\"by\":\"k\",\"start\":false,\"guards\":[],\"sets\":{},\"associate\":[],\"dissociate\":[],\"send\":[],\"end\":false" })) ≡ Some (written (record canonical { handler = codes "\"by\":\"k\"" }))
unfolding sheets_and_texts
sheet_empty_optionals = ap (option_map sheet_text) (ascii_sheet (given (record usual { handler = codes "\"by\":\"k\",\"start\":false,\"guards\":[],\"sets\":{},\"associate\":[],\"dissociate\":[],\"send\":[],\"end\":false" })) refl)

sheet_doubled : again (given (record usual { revision = codes "\"x\",\"revision\":7" })) ≡ Some (written (record canonical { revision = codes "7" }))
unfolding sheets_and_texts
sheet_doubled = ap (option_map sheet_text) (ascii_sheet (given (record usual { revision = codes "\"x\",\"revision\":7" })) refl)

sheet_escaped : again (given (record usual { name = codes "\"\\u0073heet\":\"s\"" })) ≡ Some (written canonical)
unfolding sheets_and_texts
sheet_escaped = ap (option_map sheet_text) (ascii_sheet (given (record usual { name = codes "\"\\u0073heet\":\"s\"" })) refl)

sheet_minus_zero : again (given (record usual { fields = codes "\"n\":-0" })) ≡ None
unfolding sheets_and_texts
sheet_minus_zero = ap (option_map sheet_text) (ascii_sheet (given (record usual { fields = codes "\"n\":-0" })) refl)
