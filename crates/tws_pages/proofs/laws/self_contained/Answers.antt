use Rattle.std.proofs.Common.{refl}
use Rattle.tws_pages.specs.Page.{page_body, page_end, page_start, page_style, table_end, table_head}
use Rattle.tws_pages.specs.LevelTable.{level_table_head}
use Rattle.tws_pages.specs.SideBySide.{sides_head}
use Rattle.tws_pages.proofs.laws.self_contained.Goals as goal

pub returns : goal.returns
unfolding page_body page_end page_start page_style table_end table_head level_table_head sides_head
returns c = refl
