pub mod FewChildren
