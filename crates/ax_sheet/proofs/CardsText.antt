-- The sheet of gift cards is what its text is read as.
use Rattle.std.specs.Prelude.{◌≡◌, refl, codes, Some}
use Rattle.ax_values.specs.Grammar.{Line}
use Rattle.ax_sheet.specs.Cards.{cards}
use Rattle.ax_sheet_rules.specs.Shape.{sheet_in}
use Rattle.ax_sheet.proofs.Ascii.{ascii_sheet}
use Rattle.ax_sheet.proofs.OnLiterals.{sheets_on_literals}

abbrev pub cards_text : Line
cards_text = codes "{\"sheet\":\"cards\",\"revision\":1,\"aggregate\":{\"fields\":{\"issued\":0,\"remaining\":0},\"on\":{\"issued\":{\"sets\":{\"issued\":1,\"remaining\":\"$amount\"}},\"redeemed\":{\"sets\":{\"remaining\":[\"-\",\"remaining\",\"$amount\"]}},\"transferred\":{\"sets\":{\"remaining\":[\"-\",\"remaining\",\"$amount\"]}},\"credited\":{\"sets\":{\"remaining\":[\"+\",\"remaining\",\"$amount\"]}}}},\"commands\":{\"issue\":{\"params\":{\"amount\":\"int\"},\"guards\":[[\"=\",\"issued\",0],[\"<\",0,\"$amount\"]],\"events\":[[\"issued\",1,{\"amount\":\"$amount\"}]]},\"redeem\":{\"params\":{\"amount\":\"int\"},\"guards\":[[\"=\",\"issued\",1],[\"<\",0,\"$amount\"],[\"<=\",\"$amount\",\"remaining\"]],\"events\":[[\"redeemed\",1,{\"amount\":\"$amount\"}]]},\"transfer\":{\"params\":{\"amount\":\"int\",\"to\":\"text\",\"transfer\":\"text\"},\"guards\":[[\"=\",\"issued\",1],[\"<\",0,\"$amount\"],[\"<=\",\"$amount\",\"remaining\"]],\"events\":[[\"transferred\",1,{\"amount\":\"$amount\",\"to\":\"$to\",\"transfer\":\"$transfer\"}]]},\"credit\":{\"params\":{\"amount\":\"int\",\"transfer\":\"text\"},\"guards\":[[\"=\",\"issued\",1],[\"<\",0,\"$amount\"]],\"events\":[[\"credited\",1,{\"amount\":\"$amount\",\"transfer\":\"$transfer\"}]]},\"buy\":{\"params\":{\"amount\":\"int\",\"fee\":\"int\"},\"guards\":[[\"=\",\"issued\",0],[\"<\",0,\"$amount\"],[\"<\",0,\"$fee\"]],\"events\":[[\"bought\",1,{\"amount\":\"$amount\",\"fee\":\"$fee\"}]]}},\"upcast\":[{\"from\":[\"bought\",1],\"do\":[\"split\",[[\"issued\",1,{\"amount\":\"$amount\"}],[\"redeemed\",1,{\"amount\":\"$fee\"}]]]}],\"projections\":{\"activity\":{\"fields\":{\"count\":0},\"on\":{\"issued\":{\"announce\":true,\"sets\":{\"count\":[\"+\",\"count\",1]}},\"redeemed\":{\"sets\":{\"count\":[\"+\",\"count\",1]}}}},\"balance\":{\"fields\":{\"remaining\":0},\"on\":{\"issued\":{\"sets\":{\"remaining\":[\"+\",\"remaining\",\"$amount\"]}},\"redeemed\":{\"guards\":[[\"<=\",\"$amount\",\"remaining\"]],\"sets\":{\"remaining\":[\"-\",\"remaining\",\"$amount\"]}},\"transferred\":{\"guards\":[[\"<=\",\"$amount\",\"remaining\"]],\"sets\":{\"remaining\":[\"-\",\"remaining\",\"$amount\"]}},\"credited\":{\"sets\":{\"remaining\":[\"+\",\"remaining\",\"$amount\"]}}}}},\"sagas\":{\"transfers\":{\"fields\":{\"amount\":0},\"on\":{\"transferred\":{\"by\":\"transfer\",\"start\":true,\"sets\":{\"amount\":\"$amount\"},\"send\":[[\"credit\",\"$to\",{\"amount\":\"$amount\",\"transfer\":\"$transfer\"}]]},\"credited\":{\"by\":\"transfer\",\"end\":true}}}}}"

pub cards_are_read : sheet_in cards_text ≡ Some cards
unfolding sheets_on_literals
cards_are_read = ascii_sheet cards_text refl
